-- The contract of `encode` settles the answer and every octet of the store; and encoding from a set that fits gives what arrived.
-- Assumes nothing.
use mathlib.Core.Path.{◌≡◌, sym, ap, ◌∙◌}
use mathlib.Core.List.{List}
use Prim.Native.Nat.{ℕ, ◌<◌}
use native.Mathlib.Nat.{zero-add}
use lib.ListN.{length, get_or}
use Rattle.std.specs.Prelude.{Result, Ok}
use Rattle.field.specs.Octet.{times}
use Rattle.field.proofs.Refusals.{settled-written}
use Rattle.field.proofs.Sums.{sum_same}
use Rattle.field.specs.declared.refusal.Refusal.{Refusal}
use Rattle.headers.specs.Row.{l_of}
use Rattle.headers.specs.Shift.{shifted}
use Rattle.headers.specs.declared.row.Row.{Row}
use Rattle.constraints.specs.Encoding.{enc_of}
use Rattle.linear.specs.Bytes.{FitsBytes, cell}
use Rattle.linear.specs.System.{System}
use Rattle.encoding.specs.Encoded.{Encodes, allowed, encoded}

pub encodes-only : {v : List ℕ} {r : Row} {k t esi : ℕ} {C xs ys zs : List ℕ} {p q : Result (Unit {0}) Refusal}
    → Encodes v r k t esi C xs ys p → Encodes v r k t esi C xs zs q → (p ≡ q) × (ys ≡ zs)
encodes-only {v} {r} {k} {t} {esi} {C} {xs} {ys} {zs} {p} {q} a b =
    settled-written (allowed r (length v) k t esi (length C) (length xs)) xs (encoded v r (shifted esi k r.kp) t C) 0 t p q ys zs
    (a.answer, a.memory) (b.answer, b.memory)

-- the equation i of S is that of the ISI x
abbrev pub RowOf : List ℕ → Row → System ℕ → ℕ → ℕ → Type 0
RowOf v r S i x = (c : ℕ) → c < l_of r → S.coef i c ≡ enc_of v r x c

-- a set that fits an arrival has its octets
pub encoded-fits : (v : List ℕ) (r : Row) (x t : ℕ) (C : List ℕ) (S : System ℕ) → FitsBytes (l_of r) t S C → (i : ℕ) → i < S.count → RowOf v r S i x
    → (o : ℕ) → o < t → encoded v r x t C o ≡ S.byte i o
encoded-fits v r x t C S f i h e o l = sum_same (l_of r) (λ c b. ap (λ (n : ℕ). times n (cell t C c o)) (sym (e c b))) ∙ f.meets i h o l

-- and a call that encodes its ESI from that set writes its symbol
pub encoded-arrival : {v : List ℕ} {r : Row} {k t esi : ℕ} {C xs ys : List ℕ} (S : System ℕ) → Encodes v r k t esi C xs ys (Ok tt) → FitsBytes (l_of r) t S C
    → (i : ℕ) → i < S.count → RowOf v r S i (shifted esi k r.kp) → (o : ℕ) → o < t → get_or ys o 0 ≡ S.byte i o
encoded-arrival {v} {r} {k} {t} {esi} {C} {xs} {ys} S a f i h e o l =
    ap (λ (n : ℕ). get_or ys n 0) (sym (zero-add o)) ∙ a.memory.part o l ∙ encoded-fits v r (shifted esi k r.kp) t C S f i h e o l
