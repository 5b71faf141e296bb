-- What is printed of a refusal of linking.
use Rattle.vf_base.specs.declared.rule.Rule.{Rule}
use Rattle.vf_base.specs.declared.rule.Rule.TheVariants as rules
use Rattle.vf_base.specs.declared.refusal.Shown.{Shown}
use Rattle.vf_base.specs.declared.refusal.Shown.TheVariants.{Name, Count}
use Rattle.vf_link.specs.declared.refusal.LinkRefusal.{LinkRefusal}
use Rattle.vf_link.specs.declared.refusal.LinkRefusal.TheVariants.{NoMain, Duplicate, TwoBodies, HeaderDiffers, Unmet, Signature, LemmaCycle}

-- the rule of a refusal
abbrev pub rule_of : LinkRefusal → Rule
rule_of (NoMain count) = rules.NoMain
rule_of (Duplicate identity) = rules.Duplicate
rule_of (TwoBodies identity) = rules.TwoBodies
rule_of (HeaderDiffers path) = rules.HeaderDiffers
rule_of (Unmet identity) = rules.Unmet
rule_of (Signature identity) = rules.Signature
rule_of (LemmaCycle identity) = rules.LemmaCycle

-- the count, path or identity that it shows
abbrev pub shown_of : LinkRefusal → Shown
shown_of (NoMain count) = Count count
shown_of (Duplicate identity) = Name identity
shown_of (TwoBodies identity) = Name identity
shown_of (HeaderDiffers path) = Name path
shown_of (Unmet identity) = Name identity
shown_of (Signature identity) = Name identity
shown_of (LemmaCycle identity) = Name identity
