-- The numbers and names of the refusal rules, as they are printed.
use Rattle.std.specs.Prelude.{ℕ, List, codes}
use Rattle.vf_base.specs.declared.rule.Rule.{Rule}
use Rattle.vf_base.specs.declared.rule.Rule.TheVariants.{Lex, Include, Directive, Syntax, Name, Typing, GhostInReal, Order, Inductive, Fixpoint, Unsupported, Range, Divisor, NoChunk, Unset, Pure, NoBody, Leak, Termination, Contract, Claim, Pointer, NoReturn, RealCall, Depth, Paths, Terms, Size, Fraction, Unmet, Duplicate, HeaderDiffers, LemmaCycle, NoMain, ManifestSyntax, TwoBodies, Signature, ScheduleSyntax, CertificateSyntax, CertificateDiffers, CertificateFalse, CertificateLength}

-- the number of a rule
abbrev pub number_of : Rule → ℕ
number_of Lex = 1
number_of Include = 2
number_of Directive = 3
number_of Syntax = 4
number_of Name = 5
number_of Typing = 6
number_of GhostInReal = 7
number_of Order = 8
number_of Inductive = 9
number_of Fixpoint = 10
number_of Unsupported = 11
number_of Range = 20
number_of Divisor = 21
number_of NoChunk = 22
number_of Unset = 23
number_of Pure = 24
number_of NoBody = 25
number_of Leak = 26
number_of Termination = 27
number_of Contract = 28
number_of Claim = 29
number_of Pointer = 30
number_of NoReturn = 32
number_of RealCall = 33
number_of Depth = 40
number_of Paths = 41
number_of Terms = 42
number_of Size = 43
number_of Fraction = 44
number_of Unmet = 50
number_of Duplicate = 51
number_of HeaderDiffers = 52
number_of LemmaCycle = 53
number_of NoMain = 54
number_of ManifestSyntax = 55
number_of TwoBodies = 56
number_of Signature = 57
number_of ScheduleSyntax = 60
number_of CertificateSyntax = 61
number_of CertificateDiffers = 62
number_of CertificateFalse = 63
number_of CertificateLength = 64

-- the name of a rule, in bytes of ASCII
abbrev pub name_of : Rule → List ℕ
name_of Lex = codes "lex"
name_of Include = codes "include"
name_of Directive = codes "directive"
name_of Syntax = codes "syntax"
name_of Name = codes "name"
name_of Typing = codes "type"
name_of GhostInReal = codes "ghostinreal"
name_of Order = codes "order"
name_of Inductive = codes "inductive"
name_of Fixpoint = codes "fixpoint"
name_of Unsupported = codes "unsupported"
name_of Range = codes "range"
name_of Divisor = codes "divisor"
name_of NoChunk = codes "nochunk"
name_of Unset = codes "unset"
name_of Pure = codes "pure"
name_of NoBody = codes "nobody"
name_of Leak = codes "leak"
name_of Termination = codes "termination"
name_of Contract = codes "contract"
name_of Claim = codes "claim"
name_of Pointer = codes "pointer"
name_of NoReturn = codes "noreturn"
name_of RealCall = codes "realcall"
name_of Depth = codes "depth"
name_of Paths = codes "paths"
name_of Terms = codes "terms"
name_of Size = codes "size"
name_of Fraction = codes "fraction"
name_of Unmet = codes "unmet"
name_of Duplicate = codes "duplicate"
name_of HeaderDiffers = codes "headerdiffers"
name_of LemmaCycle = codes "lemmacycle"
name_of NoMain = codes "nomain"
name_of ManifestSyntax = codes "manifestsyntax"
name_of TwoBodies = codes "twobodies"
name_of Signature = codes "signature"
name_of ScheduleSyntax = codes "schedulesyntax"
name_of CertificateSyntax = codes "certsyntax"
name_of CertificateDiffers = codes "certdiffers"
name_of CertificateFalse = codes "certfalse"
name_of CertificateLength = codes "certlength"
