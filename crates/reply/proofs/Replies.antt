-- There is one reply to a delivery, and one content of each stream; what is written stands in the store.
-- Assumes nothing.
use mathlib.Core.Path.{◌≡◌, refl, sym, ap, ap₂, ◌∙◌, subst}
use mathlib.Core.List.{List, ◌++◌}
use Rattle.std.specs.Prelude.{Ok, Err}
use Prim.Native.Nat.{ℕ, ◌≤◌}
use native.Mathlib.Omega.{arith}
use lib.ListN.{length, take}
use lib.Seq.{ext_get_or, get_or-take, length-take-le}
use Rattle.field.proofs.Writing.{written_once}
use Rattle.elimination.specs.declared.verdict.Verdict.{Verdict}
use Rattle.elimination.specs.declared.verdict.Verdict.TheVariants.{Solved, Contradiction, Open}
use Rattle.delivery.specs.Received.{Comes, InRoom, Received, taken}
use Rattle.delivery.specs.declared.beneath.packets.Passed.{Passed}
use Rattle.delivery.proofs.Outcomes.{comes-only, comes-once, object-once, object-in}
use Rattle.reply.specs.Ascii.{ascii}
use Rattle.reply.specs.Rows.{typed_in}
use Rattle.reply.specs.Words.{Line, open_words, stop_words}
use Rattle.reply.specs.declared.beneath.rows.Typed.{Typed}
use Rattle.reply.specs.Replies.{InStore, InWords, Replied, Said, SaidOf, notes_of, to_error, to_output, words_in}
use Rattle.reply.specs.declared.beneath.replying.Spoken.{Spoken}
use Rattle.reply.specs.declared.beneath.replying.Reply.{Reply}
use Rattle.reply.specs.declared.beneath.replying.Reply.TheVariants.{Object, Words}
use Rattle.reply.proofs.Lines.{counts, line-counts, line-is}

-- ---- one reply

module _ (ws xs ys zs : List ℕ) where
  in-words-once : (r s : Reply) → InWords ws xs ys r → InWords ws xs zs s → (r ≡ s) × (ys ≡ zs)
  in-words-once (Object m) (Object n) a b = absurd a
  in-words-once (Object m) (Words n) a b = absurd a
  in-words-once (Words m) (Object n) a b = absurd b
  in-words-once (Words m) (Words n) a b = (ap Words (a.count ∙ sym b.count), written_once a.laid b.laid)

module _ (xs ys zs : List ℕ) (r s : Reply) where
  said-of-once : (v : Verdict) (f : ℕ) → SaidOf f xs ys r v → SaidOf f xs zs s v → (r ≡ s) × (ys ≡ zs)
  said-of-once Solved f a b = (a.0 ∙ sym b.0, a.1 ∙ sym b.1)
  said-of-once Contradiction f a b = in-words-once (ascii "contradiction\n") xs ys zs r s a b
  said-of-once (Open n) f a b = in-words-once (open_words n) xs ys zs r s a b

  said-once : (t : Typed) (o : Received) → Said t xs ys r o → Said t xs zs s o → (r ≡ s) × (ys ≡ zs)
  said-once t (Ok c) a b = said-of-once c.verdict c.size a b
  said-once t (Err why) a b = in-words-once (stop_words t why) xs ys zs r s a b

-- any two results that the contract allows are the same: the notes, the stream, the counts and both stores
pub replied-once : {d ls ms ns xs ys zs : List ℕ} {s u : Spoken} → Replied d ls ms xs ys s → Replied d ls ns xs zs u → (s ≡ u) × (ms ≡ ns) × (ys ≡ zs)
replied-once {d} {ls} {ms} {ns} {xs} {ys} {zs} {s} {u} a b =
    let e = comes-once d xs a.store b.store a.what b.what a.comes b.comes in
    let n = subst (λ (o : Received). Line (notes_of o) ls ns u.notes) (sym e.0) b.noted in
    let m = subst (λ (o : Received). Said (typed_in d) b.store zs u.reply o) (sym e.0) b.said in
    let w = said-once a.store ys zs s.reply u.reply (typed_in d) a.what a.said
    (subst (λ (l : List ℕ). Said (typed_in d) l zs u.reply a.what) (sym e.1) m)
    in (
      ap₂ {C = Spoken} (λ (x : ℕ) (r : Reply). record { notes = x; reply = r }) (a.noted.count ∙ sym n.count) w.0,
      written_once a.noted.laid n.laid,
      w.1,
    )

-- ---- the content of both streams, whatever the store held before

abbrev SameStreams : (r s : Reply) (ys vs : List ℕ) → Type 0
SameStreams r s ys vs = (to_output r ys ≡ to_output s vs) × (words_in r ys ≡ words_in s vs)

module _ (ws xs ys us vs : List ℕ) where
  same-words : (r s : Reply) → InWords ws xs ys r → InWords ws us vs s → SameStreams r s ys vs
  same-words (Object m) (Object n) a b = absurd a
  same-words (Object m) (Words n) a b = absurd a
  same-words (Words m) (Object n) a b = absurd b
  same-words (Words m) (Words n) a b = (refl, line-is a ∙ sym (line-is b))

module _ (d : List ℕ) {xs ys us vs : List ℕ} {n : ℕ} {o : Passed} (a : Comes d xs ys (taken Solved n o)) (b : Comes d us vs (taken Solved n o)) where
  same_object : n ≤ length ys → n ≤ length vs → take n ys ≡ take n vs
  same_object p q =
      let l = length-take-le n ys p in
      let m = length-take-le n vs q in
      ext_get_or 0 (take n ys) (take n vs) (l ∙ sym m)
      (λ k h. get_or-take n ys k 0 (omega arith) ∙ object-once d a b k (omega (arith, object-in d a)) ∙ sym (get_or-take n vs k 0 (omega arith)))

module _ (d xs us ys vs : List ℕ) (r s : Reply) (f : InStore r ys) (g : InStore s vs) where
  same-said-of : (v : Verdict) (n : ℕ) (o : Passed) (p q : List ℕ) → Comes d xs p (taken v n o) → Comes d us q
      (taken v n o) → SaidOf n p ys r v → SaidOf n q vs s v
      → SameStreams r s ys vs
  same-said-of Solved n o p q x y a b =
      let x₁ = subst (λ (m : List ℕ). Comes d xs m (taken Solved n o)) (sym a.1) x in
      let y₁ = subst (λ (m : List ℕ). Comes d us m (taken Solved n o)) (sym b.1) y in
      let f₁ = subst (λ (t : Reply). InStore t ys) a.0 f in
      let g₁ = subst (λ (t : Reply). InStore t vs) b.0 g in (
        ap (λ (t : Reply). to_output t ys) a.0 ∙ same_object d x₁ y₁ f₁.0 g₁.0 ∙ sym (ap (λ (t : Reply). to_output t vs) b.0),
        ap (λ (t : Reply). words_in t ys) a.0 ∙ sym (ap (λ (t : Reply). words_in t vs) b.0),
      )
  same-said-of Contradiction n o p q x y a b = same-words (ascii "contradiction\n") p ys q vs r s a b
  same-said-of (Open m) n o p q x y a b = same-words (open_words m) p ys q vs r s a b

  same-said : (t : Typed) (o : Received) (p q : List ℕ) → Comes d xs p o → Comes d us q o → Said t p ys r o → Said t q vs s o → SameStreams r s ys vs
  same-said t (Ok c) p q x y a b = same-said-of c.verdict c.size c.passed p q x y a b
  same-said t (Err why) p q x y a b = same-words (stop_words t why) p ys q vs r s a b

-- of one delivery standard output gets the same bytes, and standard error the same notes and words
pub streams-once : {d ls ms ns ps xs ys us vs : List ℕ} {s u : Spoken} → InStore s.reply ys → InStore u.reply vs → Replied d ls ms xs ys s
    → Replied d ns ps us vs u
    → (to_output s.reply ys ≡ to_output u.reply vs) × (to_error s ms ys ≡ to_error u ps vs)
streams-once {d} {ls} {ms} {ns} {ps} {xs} {ys} {us} {vs} {s} {u} f g a b =
    let e = comes-only d xs a.store us b.store a.what b.what a.comes b.comes in
    let n = subst (λ (o : Received). Line (notes_of o) ns ps u.notes) (sym e) b.noted in
    let w = same-said d xs us ys vs s.reply u.reply f g (typed_in d) a.what a.store b.store a.comes
    (subst (Comes d us b.store) (sym e) b.comes) a.said
    (subst (λ (o : Received). Said (typed_in d) b.store vs u.reply o) (sym e) b.said)
    in
    (w.0, ap₂ ◌++◌ (line-is a.noted ∙ sym (line-is n)) w.1)

-- ---- what is written stands in the store

words-front : (ws xs ys : List ℕ) (r : Reply) → InWords ws xs ys r → InStore r ys
words-front ws xs ys (Object n) u = absurd u
words-front ws xs ys (Words n) u = line-counts u

module _ (zs ys : List ℕ) (r : Reply) where
  verdict-front : (v : Verdict) (n : ℕ) → n ≤ length zs → SaidOf n zs ys r v → InStore r ys
  verdict-front Solved n u w = subst (λ (t : Reply). InStore t ys) (sym w.0) (counts ys (omega (arith, ap length w.1)))
  verdict-front Contradiction n u w = words-front (ascii "contradiction\n") zs ys r w
  verdict-front (Open m) n u w = words-front (open_words m) zs ys r w

  pub said-front : (t : Typed) (o : Received) → InRoom (length zs) o → Said t zs ys r o → InStore r ys
  said-front t (Ok c) u w = verdict-front c.verdict c.size u w
  said-front t (Err why) u w = words-front (stop_words t why) zs ys r w
