-- What `read_from` has filled is what the source has handed over, since each turn adds the bytes of one read.
use Rattle.std.proofs.Common.{◌≡◌, ℕ, ◌+◌, ◌≤◌, List, ◌++◌, rules, length, take, sym, ap, ap₂, ◌∙◌, subst, le_refl, drop_at, length-take-le}
use lib.Seq.{take-add, take-append-le}
use borrow.Rule.Slice.PartMut.{put_mid, post_of}
use Rattle.std.proofs.lemmas.Slice.{take-put_mid_below}
use Rattle.std.specs.Io.KnownBytes.{Consumes}
use Rattle.std.proofs.KnownBytes.{Consumes-trans}
use Rattle.text.proofs.streams.read_from.Goals as goal

-- the front of what a list holds once n bytes of ys stand from a on
take_filled : (a k n : ℕ) (xs ys : List ℕ) → a ≤ length xs → n ≤ length ys → take (a + n) (put_mid a k xs ys) ≡ take a xs ++ take n ys
take_filled a k n xs ys within fits =
    let rest = post_of a k xs in
    take-add a n (put_mid a k xs ys)
    ∙ ap₂ (λ u v. u ++ v) (take-put_mid_below a k xs ys a (le_refl a) within)
    (ap (take n) (drop_at (take a xs) (ys ++ rest) a (length-take-le a xs within)) ∙ take-append-le n ys rest fits)

pub loop-done-preserved : goal.loop-done-preserved
loop-done-preserved g c =
    let before = c.loop-done.invariant in
    let read = c.in-Some.ensures in
    record {
      within = search rules;
      bytes = subst (Consumes _ _) (sym (take_filled _ _ _ c.loop-done.buffer c.read_part.new.part before.within read.within.0)) (Consumes-trans _ _ _ _ _ before.bytes read.bytes);
    }
