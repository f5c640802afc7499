-- The internal symbol id of an encoding symbol id (RFC 6330 section 5.3.1; document 01, 'Tuple and indices').
-- Assumes nothing.
use Rattle.std.specs.Prelude.{ℕ, Result, ◌+◌, ◌-◌, not, nat_le, nat_lt}
use Rattle.field.specs.Choice.{pick}
use Rattle.field.specs.Answer.{Outcome, given, unless, before, outcome_of}
use Rattle.headers.specs.Row.{verified, between}
use Rattle.headers.specs.declared.row.Row.{Row}
use Rattle.field.specs.declared.refusal.Refusal.{Refusal}
use Rattle.headers.specs.declared.ids.Isi.{Isi}

-- below K the same; from K on, K' - K more
abbrev pub shifted : ℕ → ℕ → ℕ → ℕ
shifted esi k kp = pick (nat_lt esi k) esi (esi + (kp - k))

-- what the shift answers
abbrev pub isi_answer : Row → ℕ → ℕ → Outcome ℕ
isi_answer r k esi =
    before (verified r) (unless (nat_le 16777216 esi) 9 (unless (not (between 1 k r.kp)) 9 (given (shifted esi k r.kp))))

abbrev pub isi_outcome : Result Isi Refusal → Outcome ℕ
isi_outcome = outcome_of (λ i. i.0)
