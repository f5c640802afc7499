-- Demand 3 over each stretch between two accepted begins (document 02, E1): of two questions of one night, with no accepted begin between them, the later
-- one's packets begin with the earlier one's, however many they are. So a contradiction stays, what is solved is never open again, and a shortfall does not
-- grow.
-- Assumes nothing.
use mathlib.Core.Path.{◌≡◌, refl, sym, ap, ap₂, ◌∙◌, subst}
use mathlib.Core.Logic.{◌⊎◌}
use mathlib.Core.List.{List, [], ◌∷◌, ◌++◌, append-nil, append_assoc}
use Prim.Native.Nat.{ℕ, ◌≤◌}
use Rattle.std.specs.Prelude.{Result, Ok, Err}
use Rattle.field.specs.declared.refusal.Refusal.{Refusal}
use Rattle.elimination.specs.declared.verdict.Verdict.{Verdict}
use Rattle.elimination.specs.declared.verdict.Verdict.TheVariants.{Solved, Contradiction, Open}
use Rattle.intake.specs.Night.{Stretch, arrived}
use Rattle.promises.specs.Calls.{Among, set_in}
use Rattle.promises.specs.Nights.{Memory, Event, begin, packet, question, Happens, Night, Since, nothing, stretch, after, after_all, since_begin}
use Rattle.promises.specs.Nights.{Question, JudgedOn, NoBegin, accepted_esis, accepted_symbols, with_packets, extended, with_accepted}
use Rattle.promises.proofs.Among.{among-more}
use Rattle.promises.proofs.Growth.{judged-solved-then, judged-contradiction-then, judged-open-then}
use Rattle.promises.proofs.Nights.{stretch-not-nothing}
use Rattle.promises.proofs.Intake.{question-judged}

-- ---- the packets

after-append : (xs ys : List Event) (was : Since) → after_all was (xs ++ ys) ≡ after_all (after_all was xs) ys
after-append [] ys was = refl
after-append (x ∷ xs) ys was = after-append xs ys (after was x)

extended_none : (z : Stretch) → extended z [] [] ≡ z
extended_none z = ap₂ (with_packets z) (append-nil z.esis) (append-nil z.symbols)

extended-more : (z : Stretch) (e : ℕ) (s es xs : List ℕ) → extended (arrived z e s) es xs ≡ extended z (e ∷ es) (s ++ xs)
extended-more z e s es xs = ap₂ (with_packets z) (append_assoc z.esis (e ∷ []) es) (append_assoc z.symbols s xs)

-- without an accepted begin the stretch goes on: row, tables, K, T and the packets that it had stay, and those that were accepted come behind them
continues : (ys : List Event) → NoBegin ys → (z : Stretch) → after_all (stretch z) ys ≡ stretch (with_accepted z ys)
continues [] n z = ap stretch (sym (extended_none z))
continues (begin r v k t (Ok _) ∷ ys) n z = absurd n
continues (begin r v k t (Err why) ∷ ys) n z = continues ys n z
continues (packet e s (Ok _) ∷ ys) n z =
    continues ys n (arrived z e s) ∙ ap stretch (extended-more z e s (accepted_esis ys) (accepted_symbols ys))
continues (packet e s (Err why) ∷ ys) n z = continues ys n z
continues (question o o₁ x ∷ ys) n z = continues ys n z

-- so of a night, cut in two
pub since-continues : (xs ys : List Event) (z : Stretch) → NoBegin ys → since_begin xs ≡ stretch z → since_begin (xs ++ ys) ≡ stretch (with_accepted z ys)
since-continues xs ys z n e = after-append xs ys _ ∙ ap (λ (s : Since). after_all s ys) e ∙ continues ys n z

-- ---- the two questions

-- a night up to one of its calls
up_to : (xs : List Event) (x : Event) (ys : List Event) (m n : Memory) → Night (xs ++ (x ∷ ys)) m n
    → (l : Memory) × (i : Memory) × Night xs m l × Happens x l i
up_to [] x ys m n h = (m, h.0, refl, h.1)
up_to (y ∷ xs) x ys m n h = let t = up_to xs x ys h.0 n h.2 in (t.0, t.1, (h.0, h.1, t.2), t.3)

-- the earlier one
pub earlier : (xs ys : List Event) (o o₁ p p₁ : List ℕ) (x y : Result Verdict Refusal) → Question (xs ++ (question o o₁ x ∷ ys)) p p₁ y → Question xs o o₁ x
earlier xs ys o o₁ p p₁ x y q =
    let t = up_to xs (question o o₁ x) ys q.lent q.left q.night in
    record { lent = q.lent; left = t.0; last = t.1; unbegun = q.unbegun; night = t.2; call = t.3 }

stretch-only : (z y : Stretch) → stretch z ≡ stretch y → z ≡ y
stretch-only z y e = cc

-- a question is answered by the definition on the stretch that there was
pub judged-on : {xs : List Event} {z : Stretch} {o o₁ : List ℕ} {w : Verdict} → Question xs o o₁ (Ok w) → since_begin xs ≡ stretch z → JudgedOn z o o₁ w
judged-on {xs} {z} {o} {o₁} {w} q e =
    let c = question-judged q in
    subst (λ (y : Stretch). JudgedOn y o o₁ w) (stretch-only c.0 z (sym c.1 ∙ e)) c.2

-- where nothing was begun, and no begin was accepted since, nothing is
unbegun-stays : (ys : List Event) → NoBegin ys → after_all nothing ys ≡ nothing
unbegun-stays [] n = refl
unbegun-stays (begin r v k t (Ok _) ∷ ys) n = absurd n
unbegun-stays (begin r v k t (Err why) ∷ ys) n = unbegun-stays ys n
unbegun-stays (packet e s (Ok _) ∷ ys) n = unbegun-stays ys n
unbegun-stays (packet e s (Err why) ∷ ys) n = unbegun-stays ys n
unbegun-stays (question o o₁ x ∷ ys) n = unbegun-stays ys n

-- so the begin of a question that is answered was accepted before
pub begun-before : (xs ys : List Event) {o o₁ : List ℕ} {w : Verdict} → NoBegin ys → Question (xs ++ ys) o o₁ (Ok w)
    → (z : Stretch) × (since_begin xs ≡ stretch z)
begun-before xs ys n q = go (since_begin xs) refl
  where
    go : (s : Since) → since_begin xs ≡ s → (z : Stretch) × (since_begin xs ≡ stretch z)
    go nothing e =
        absurd (let c = question-judged q in stretch-not-nothing
        (sym c.1 ∙ after-append xs ys _ ∙ ap (λ (s : Since). after_all s ys) e ∙ unbegun-stays ys n))
    go (stretch z) e = (z, e)

-- both are answered by the definition, and the later one's arrivals begin with the earlier one's
pub record Both (xs ys : List Event) (o o₁ p p₁ : List ℕ) (w u : Verdict) : Type 0 where
  pub held : Stretch
  pub is : since_begin xs ≡ stretch held
  pub first : JudgedOn held o o₁ w
  pub second : JudgedOn (with_accepted held ys) p p₁ u
  pub among : Among held.t held.esis held.symbols (held.esis ++ accepted_esis ys) (held.symbols ++ accepted_symbols ys)

pub both : (xs ys : List Event) (o o₁ p p₁ : List ℕ) (w u : Verdict) → NoBegin ys → Question (xs ++ (question o o₁ (Ok w) ∷ ys)) p p₁ (Ok u)
    → Both xs ys o o₁ p p₁ w u
both xs ys o o₁ p p₁ w u n q =
    let a = question-judged (earlier xs ys o o₁ p p₁ (Ok w) (Ok u) q) in
    let z : Stretch = a.0 in
    record {
      held = z;
      is = a.1;
      first = a.2;
      second = judged-on q (since-continues xs (question o o₁ (Ok w) ∷ ys) z n a.1);
      among = among-more z.t z.esis z.symbols (accepted_esis ys) (accepted_symbols ys) a.2.receivable.all;
    }

-- ---- demand 3

module _ (xs ys : List Event) (o o₁ p p₁ : List ℕ) (u : Verdict) (n : NoBegin ys) where
  -- a contradiction stays one, until the next accepted begin
  pub contradiction-later : Question (xs ++ (question o o₁ (Ok Contradiction) ∷ ys)) p p₁ (Ok u) → u ≡ Contradiction
  contradiction-later q = let b = both xs ys o o₁ p p₁ Contradiction u n q in judged-contradiction-then b.among b.first u b.second

  -- solved stays solved with the same bytes, or becomes a contradiction; it is never open again
  pub solved-later : Question (xs ++ (question o o₁ (Ok Solved) ∷ ys)) p p₁ (Ok u)
      → (z : Stretch) × (since_begin xs ≡ stretch z) × (((u ≡ Solved) × (set_in z.row z.t p₁ ≡ set_in z.row z.t o₁)) ⊎ (u ≡ Contradiction))
  solved-later q = let b = both xs ys o o₁ p p₁ Solved u n q in (b.held, b.is, judged-solved-then b.among b.first u b.second)

  -- open becomes anything, and a shortfall that is left is no greater
  pub open-later : (s : ℕ) → Question (xs ++ (question o o₁ (Ok (Open s)) ∷ ys)) p p₁ (Ok u)
      → (u ≡ Solved) ⊎ ((u ≡ Contradiction) ⊎ ((i : ℕ) × (u ≡ Open i) × (i ≤ s)))
  open-later s q = let b = both xs ys o o₁ p p₁ (Open s) u n q in judged-open-then b.among b.first u b.second
