-- How the logic stores where a path stands.
use Rattle.std.proofs.Common.{◌≡◌, ap}
use Rattle.std.specs.Coded.{Coded, coded_list}
use base.Stored.{Gv, gcons}
use Rattle.std.specs.Coded.{coded_ℕ}
use Rattle.vf_formula.specs.Codes.{front, back, term_code, term_inj}
use Rattle.vf_interning.specs.Codes.{coded_literal}
use Rattle.vf_question.specs.declared.unfolding.Unfolding.{Unfolding}
use Rattle.vf_unfolding.specs.Walked.{Stand, Walked}

-- an unfolding is stored as its depth and its terms
abbrev pub unfolding_code : Unfolding → Gv
unfolding_code m = gcons (coded_ℕ.code m.depth) (gcons (term_code m.application) (term_code m.body))

pub unfolding_inj : (m n : Unfolding) → unfolding_code m ≡ unfolding_code n → m ≡ n
unfolding_inj m n p = λ i. record { application = term_inj m.application n.application (ap (λ g. front (back g)) p) i; body = term_inj m.body n.body (ap (λ g. back (back g)) p) i; depth = coded_ℕ.inj m.depth n.depth (ap front p) i }

-- how an unfolding is stored tells it
abbrev pub coded_unfolding : Coded Unfolding
coded_unfolding = record { code = unfolding_code; inj = unfolding_inj }

-- the facts and the unfoldings are stored one after the other
abbrev pub stand_code : Stand → Gv
stand_code s = gcons ((coded_list coded_literal).code s.facts) ((coded_list coded_unfolding).code s.made)

pub stand_inj : (r s : Stand) → stand_code r ≡ stand_code s → r ≡ s
stand_inj r s p = λ i. record { facts = (coded_list coded_literal).inj r.facts s.facts (ap front p) i; made = (coded_list coded_unfolding).inj r.made s.made (ap back p) i }

-- and tell where the path stands
abbrev pub coded_stand : Coded Stand
coded_stand = record { code = stand_code; inj = stand_inj }

-- where it stands now is stored before where it stood
abbrev pub walked_code : Walked → Gv
walked_code w = gcons (stand_code w.now) ((coded_list coded_stand).code w.levels)

pub walked_inj : (r s : Walked) → walked_code r ≡ walked_code s → r ≡ s
walked_inj r s p = λ i. record { now = stand_inj r.now s.now (ap front p) i; levels = (coded_list coded_stand).inj r.levels s.levels (ap back p) i }

-- how a path is stored tells what there is
abbrev pub coded_walked : Coded Walked
coded_walked = record { code = walked_code; inj = walked_inj }
