use Rattle.std.proofs.Common.{◌≡◌, ℕ, ◌+◌, ◌≤◌, List, ◌++◌, length, take, ap, ap₂, ◌∙◌, sym, subst, le_refl, length-take-le, take-add, drop_at, arith}
use Rattle.std.proofs.lemmas.List.{take-append-le}
use Rattle.std.proofs.lemmas.Slice.{take-put_mid_below}
use Rattle.std.specs.Io.KnownBytes.{Consumes}
use Rattle.std.proofs.KnownBytes.{Consumes-trans}
use borrow.Rule.Slice.PartMut.{put_mid, post_of}
use Rattle.header_text.proofs.beneath.input.read_full.Goals as goal

-- m more bytes behind the first n
more-behind : (n k m : ℕ) (xs ys : List ℕ) → n ≤ length xs → m ≤ length ys → take n xs ++ take m ys ≡ take (n + m) (put_mid n k xs ys)
more-behind n k m xs ys h l =
    sym (take-add n m (put_mid n k xs ys)
    ∙ ap₂ (λ (a b : List ℕ). a ++ take m b) (take-put_mid_below n k xs ys n (le_refl n) h) (drop_at (take n xs) (ys ++ post_of n k xs) n (length-take-le n xs h))
    ∙ ap (λ (a : List ℕ). take n xs ++ a) (take-append-le m ys (post_of n k xs) l))

pub loop-n-preserved : goal.loop-n-preserved
loop-n-preserved g c =
    let all = c.in-Ok.ensures in (
      omega (arith, all.bound.0),
      subst (Consumes _ _) (more-behind c.loop-n.n _ c.in-Ok.more c.loop-n.store c.read.new.buf c.loop-n.invariant.0 all.bound.0)
          (Consumes-trans _ _ _ _ _ c.loop-n.invariant.1 all.bytes.0),
    )
