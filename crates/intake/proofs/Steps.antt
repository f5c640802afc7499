-- What a step means: the equation that was taken is added to what the stores say, whatever became of it; and one such step after the other.
-- Assumes nothing.
use mathlib.Core.Path.{◌≡◌, refl, sym, ap, ◌∙◌, subst}
use mathlib.Core.Logic.{◌⊎◌, inl, inr}
use mathlib.Core.List.{List}
use Prim.Native.Nat.{ℕ, ◌+◌, ◌*◌, ◌<◌}
use native.Mathlib.Nat.{mul-le-mul_right}
use native.Mathlib.Decide.{ℕ_discrete}
use native.Mathlib.Omega.{arith}
use lib.ListN.{get_or}
use Rattle.linear.specs.System.{System, SameEquation, OneOf, joined}
use Rattle.linear.specs.Rows.{OnlyBelow, RowCopied, behind}
use Rattle.linear.specs.Elimination.{Holds, OneMore, alone}
use Rattle.linear.proofs.Growth.{contradiction-remains}
use Rattle.linear.proofs.Joined.{joined-each, included-first, included-second}
use Rattle.linear.proofs.Keeping.{holds_more}
use Rattle.linear.proofs.Rows.{only, only-refl, only-trans, only_row}
use Rattle.elimination.specs.Steps.{column}
use Rattle.elimination.specs.Reducing.{Reduces}
use Rattle.elimination.specs.Taking.{Lent, RoomForOne, Became}
use Rattle.elimination.specs.Solving.{progressed}
use Rattle.std.specs.Prelude.{Option, Some, None}
use Rattle.elimination.specs.declared.beneath.taking.Taken.{Taken}
use Rattle.elimination.specs.declared.beneath.taking.Taken.TheVariants.{Held, Dependent, Clash}
use Rattle.elimination.proofs.Steps.{room-kept}
use Rattle.elimination.proofs.Solving.{pivots-kept}
use Rattle.intake.specs.Taking.{Says, Placed, Takable, Adds, single}
use Rattle.intake.proofs.Systems.{Alike, alike-none, alike-shift, says-alike, alike-parts, alike_self}

-- ---- where the next one may go

-- the held rows stand there
pub held-lent : {L T r : ℕ} {ps a d : List ℕ} → Takable L T ps a d (Some r) → Lent L T r ps a d
held-lent {L} {T} u = record {
  rows = omega (arith, u.room.rows, mul-le-mul_right L u.placed.0);
  symbols = omega (arith, u.room.symbols, mul-le-mul_right T u.placed.0);
  pivots = omega (arith, u.placed.0, u.pivots.enough);
  below = u.placed.1;
}

-- and while fewer are held than there are columns there is a place for one more
pub place-next : {L T r : ℕ} {ps a d : List ℕ} → Takable L T ps a d (Some r) → r < L → RoomForOne L T r ps a d
place-next {L} {T} {r} u h = record {
  rows = omega (arith, u.room.rows, mul-le-mul_right {m = r + 1} {n = L} L (omega arith));
  symbols = omega (arith, u.room.symbols, mul-le-mul_right {m = r + 1} {n = L} T (omega arith));
  pivots = omega (arith, u.pivots.enough);
}

-- ---- what became of one equation

module _ (L T r : ℕ) (ps a d x y ps₁ a₁ d₁ : List ℕ) where
  became-placed : Placed L ps (Some r) → (k : Taken) → Became L T r ps a d x y ps₁ a₁ d₁ k → Placed L ps₁ (progressed r k)
  became-placed p Held (h, (c, b, u), q) = (omega arith, λ k l. go k l (ℕ_discrete k r))
    where
      go : (k : ℕ) → k < r + 1 → Dec (k ≡ r) → column ps₁ k < L
      go k l (yes e) = rw (e, u.new) b
      go k l (no e) = rw (u.old k e) (p.1 k (omega arith))
  became-placed p Dependent (s, q) = rw s.pivots (p.0, p.1)
  became-placed p Clash (s, q) = tt

  became-pivots : (k : Taken) → Became L T r ps a d x y ps₁ a₁ d₁ k → OnlyBelow L ps ps₁
  became-pivots Held (h, (c, b, u), q) = only u.pivots (λ k l. u.old k (λ e. omega (arith, e)))
  became-pivots Dependent (s, q) = rw s.pivots only-refl
  became-pivots Clash (s, q) = rw s.pivots only-refl

  became-rows : (k : Taken) → Became L T r ps a d x y ps₁ a₁ d₁ k → OnlyBelow (L * L) a a₁
  became-rows Held (h, (c, b, u), q) = only_row r L h u.rows
  became-rows Dependent (s, q) = rw s.rows only-refl
  became-rows Clash (s, q) = rw s.rows only-refl

  became-symbols : (k : Taken) → Became L T r ps a d x y ps₁ a₁ d₁ k → OnlyBelow (L * T) d d₁
  became-symbols Held (h, (c, b, u), q) = only_row r L h u.symbols
  became-symbols Dependent (s, q) = rw s.symbols only-refl
  became-symbols Clash (s, q) = rw s.symbols only-refl

-- the equation that stands in two buffers
abbrev pub buffered : (x y : List ℕ) → System ℕ
buffered x y = single (λ c. get_or x c 0) (λ b. get_or y b 0)

abbrev with-buffered : (S : System ℕ) (x y : List ℕ) → System ℕ
with-buffered S x y = joined S (buffered x y)

module _ {L T : ℕ} (S : System ℕ) (x y : List ℕ) where
  one_more : OneMore L T S x y (with-buffered S x y)
  one_more = record {
    old = included-first L T S (buffered x y);
    new = included-second L T S (buffered x y);
    only = λ i h. go i (joined-each L T S (buffered x y) i h);
  }
    where
      go : (i : ℕ) → OneOf L T (with-buffered S x y) i S ⊎ OneOf L T (with-buffered S x y) i (buffered x y)
          → OneOf L T (with-buffered S x y) i S ⊎ SameEquation L T (with-buffered S x y) i (alone x y) 0
      go i (inl o) = inl o
      go i (inr o) = inr (record { coefs = λ c l. o.2.coefs c l; bytes = λ b l. o.2.bytes b l })

  module _ {r : ℕ} {ps a d : List ℕ} (l : Lent L T r ps a d) (h : Says L T S ps a d (Some r)) where
    more : Holds (r + 1) L T (with-buffered S x y) (behind L r a x) (behind T r d y)
    more = holds_more l.rows l.symbols h.1 one_more

    became-says : (ps₁ a₁ d₁ : List ℕ) (k : Taken) → Became L T r ps a d x y ps₁ a₁ d₁ k → Says L T (with-buffered S x y) ps₁ a₁ d₁ (progressed r k)
    became-says ps₁ a₁ d₁ Held (b, p, q) = let j = q h.0 in (j.stands, j.says (with-buffered S x y) more)
    became-says ps₁ a₁ d₁ Dependent (s, q) = rw (s.pivots, s.rows, s.symbols) (h.0, (q h.0).says (with-buffered S x y) more)
    became-says ps₁ a₁ d₁ Clash (s, q) = (q h.0).none (with-buffered S x y) more

-- held rows are no clash
held-not : {r : ℕ} {A : Type 0} → Some r ≡ None → A
held-not e = absurd (let z : ◌≡◌ {A = ℕ} 0 1 = cc in omega arith)

-- whatever became of it, it was added
pub became-adds : {L T r : ℕ} (ps a d x y ps₁ a₁ d₁ : List ℕ) → Takable L T ps a d (Some r) → (k : Taken)
    → Became L T r ps a d x y ps₁ a₁ d₁ k → Adds L T (buffered x y) ps a d ps₁ a₁ d₁ (Some r) (progressed r k)
became-adds {L} {T} {r} ps a d x y ps₁ a₁ d₁ u k b = record {
  rows = became-rows L T r ps a d x y ps₁ a₁ d₁ k b;
  symbols = became-symbols L T r ps a d x y ps₁ a₁ d₁ k b;
  pivots = became-pivots L T r ps a d x y ps₁ a₁ d₁ k b;
  placed = became-placed L T r ps a d x y ps₁ a₁ d₁ u.placed k b;
  stays = λ e. held-not e;
  says = λ S h. became-says S x y (held-lent u) h ps₁ a₁ d₁ k b;
}

-- after a clash nothing is left to learn
pub clash-adds : {L T : ℕ} (x y ps a d : List ℕ) → Adds L T (buffered x y) ps a d ps a d None None
clash-adds {L} {T} x y ps a d = record {
  rows = only-refl;
  symbols = only-refl;
  pivots = only-refl;
  placed = tt;
  stays = λ e. refl;
  says = λ S h. contradiction-remains (included-first L T S (buffered x y)) h;
}

-- the rows may become unit rows afterwards
pub adds-reduced : {L T : ℕ} {R : System ℕ} (ps a d ps₁ a₁ d₁ a₂ d₂ : List ℕ) {p : Option ℕ} → Adds L T R ps a d ps₁ a₁ d₁ p (Some L)
    → Reduces L T ps₁ a₁ d₁ a₂ d₂ → Adds L T R ps a d ps₁ a₂ d₂ p (Some L)
adds-reduced {R = R} ps a d ps₁ a₁ d₁ a₂ d₂ u w = record {
  rows = only-trans u.rows w.rows;
  symbols = only-trans u.symbols w.symbols;
  pivots = u.pivots;
  placed = u.placed;
  stays = u.stays;
  says = λ S h. let x = u.says S h in (w.stands x.0, w.says x.0 (joined S R) x.1);
}

-- ---- one after the other

-- the next may be taken
pub adds-takable : {L T : ℕ} {R : System ℕ} (ps a d ps₁ a₁ d₁ : List ℕ) {p q : Option ℕ} → Takable L T ps a d p → Adds L T R ps a d ps₁ a₁ d₁ p q
    → Takable L T ps₁ a₁ d₁ q
adds-takable ps a d ps₁ a₁ d₁ u w = record {
  room = room-kept u.room w.rows.size w.symbols.size;
  pivots = pivots-kept u.pivots w.pivots.size;
  placed = w.placed;
}

-- when it was told what became of it
module _ {L T r : ℕ} (ps a d x y ps₁ a₁ d₁ : List ℕ) (u : Takable L T ps a d (Some r)) (k : Taken) (b : Became L T r ps a d x y ps₁ a₁ d₁ k) where
  pub told-adds : {j : Taken} → k ≡ j → Adds L T (buffered x y) ps a d ps₁ a₁ d₁ (Some r) (progressed r j)
  told-adds e = subst (λ (z : Taken). Adds L T (buffered x y) ps a d ps₁ a₁ d₁ (Some r) (progressed r z)) e (became-adds ps a d x y ps₁ a₁ d₁ u k b)

  -- the last place was taken
  module _ (e : k ≡ Held) (f : r + 1 ≡ L) where
    pub full-lent : Lent L T L ps₁ a₁ d₁
    full-lent = subst (λ (n : ℕ). Lent L T n ps₁ a₁ d₁) f (held-lent (adds-takable ps a d ps₁ a₁ d₁ u (told-adds e)))

    pub full-adds : (a₂ d₂ : List ℕ) → Reduces L T ps₁ a₁ d₁ a₂ d₂
        → Adds L T (buffered x y) ps a d ps₁ a₂ d₂ (Some r) (Some L)
    full-adds a₂ d₂ w =
        adds-reduced ps a d ps₁ a₁ d₁ a₂ d₂
        (subst (λ (n : ℕ). Adds L T (buffered x y) ps a d ps₁ a₁ d₁ (Some r) (Some n)) f (told-adds e)) w

pub adds_none : {L T : ℕ} (R : System ℕ) (ps a d : List ℕ) (p : Option ℕ) → R.count ≡ 0 → Placed L ps p → Adds L T R ps a d ps a d p p
adds_none R ps a d p e h = record {
  rows = only-refl;
  symbols = only-refl;
  pivots = only-refl;
  placed = h;
  stays = λ e. e;
  says = λ S x. says-alike ps a d p (alike-none S R e) x;
}

pub adds-alike : {L T : ℕ} (R Q : System ℕ) (ps a d ps₁ a₁ d₁ : List ℕ) (p q : Option ℕ) → Alike L T R Q → Adds L T R ps a d ps₁ a₁ d₁ p q
    → Adds L T Q ps a d ps₁ a₁ d₁ p q
adds-alike R Q ps a d ps₁ a₁ d₁ p q f u = record {
  rows = u.rows;
  symbols = u.symbols;
  pivots = u.pivots;
  placed = u.placed;
  stays = u.stays;
  says = λ S h. says-alike ps₁ a₁ d₁ q (alike-parts S R S Q (alike_self S) f) (u.says S h);
}

pub adds_then : {L T : ℕ} (R Q : System ℕ) (ps a d ps₁ a₁ d₁ ps₂ a₂ d₂ : List ℕ) (p o q : Option ℕ) → Adds L T R ps a d ps₁ a₁ d₁ p o
    → Adds L T Q ps₁ a₁ d₁ ps₂ a₂ d₂ o q → Adds L T (joined R Q) ps a d ps₂ a₂ d₂ p q
adds_then R Q ps a d ps₁ a₁ d₁ ps₂ a₂ d₂ p o q u w = record {
  rows = only-trans u.rows w.rows;
  symbols = only-trans u.symbols w.symbols;
  pivots = only-trans u.pivots w.pivots;
  placed = w.placed;
  stays = λ e. w.stays (u.stays e);
  says = λ S h. says-alike ps₂ a₂ d₂ q (alike-shift S R Q) (w.says (joined S R) (u.says S h));
}

-- the equation in the buffers, by what was laid there
pub buffered-is : {L T : ℕ} (f g : ℕ → ℕ) (x y : List ℕ) → ((c : ℕ) → c < L → get_or x c 0 ≡ f c) → ((b : ℕ) → b < T → get_or y b 0 ≡ g b)
    → Alike L T (buffered x y) (single f g)
buffered-is f g x y p q = record {
  to = λ i h. (0, omega arith, record { coefs = p; bytes = q });
  back = λ i h. (0, omega arith, record { coefs = λ c l. sym (p c l); bytes = λ b l. sym (q b l) });
}

-- row i of a store, in a buffer of its own
pub copied : {w : ℕ} (i : ℕ) (a x₀ x : List ℕ) → RowCopied w 0 i a x₀ x → (c : ℕ) → c < w → get_or x c 0 ≡ get_or a (i * w + c) 0
copied {w} i a x₀ x s c h = let e : 0 * w + c ≡ c = omega arith in ap (λ (k : ℕ). get_or x k 0) (sym e) ∙ s.part c h
