-- What is shown of unknown sorts. Each law is the contract of a public function with an empty body.
use Rattle.vf_sorts.specs.Unknowns.{Known, AgreesAsTold, IsResolved, settling}

-- where nothing is known of the sorts that are unknown in what is known, the sorts by which others are settled agree with it, and with what pointers tell
abbrev pub SettlingAgrees : Type 0
SettlingAgrees = (known : Known) → IsResolved known → AgreesAsTold (settling known) known
