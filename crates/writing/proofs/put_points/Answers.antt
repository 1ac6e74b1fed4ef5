-- `put_points` keeps the coordinates put so far in front of what the part held past them.
use mir.Syntax.{w32}
use mir.Facts.{to_z-of_z}
use borrow.Author.Rules.{rules}
use Prim.Native.Nat.{◌*◌}
use mathlib.Core.Path.{◌≡◌, refl, ap, ◌∙◌}
use mathlib.Core.List.{flat_map}
use native.Mathlib.Omega.{arith}
use lib.IntN.{pos}
use lib.ListN.{length, get_or}
use lib.Seq.{take-length}
use Rattle.laws.specs.Internal.Parts.{splice}
use Rattle.laws.proofs.Chunks.{flat_map_map}
use Rattle.laws.proofs.Filling.{chunk_next}
use Rattle.cagefile.specs.Numbers.{u32, twos}
use Rattle.writing.proofs.put_points.Invariants.{put}
use Rattle.writing.proofs.put_points.Goals as goal

pub loop-index-init : goal.loop-index-init
unfolding flat_map
loop-index-init c = search rules

pub loop-index-preserved : goal.loop-index-preserved
loop-index-preserved c =
    let z = get_or c.args.points.now c.loop-index.index (pos 0) in
    let same = to_z-of_z {w = w32} {z = z} (record { sfits = c.put_coordinate-arg-in-loop-index-1.given }) in (
    c.put_coordinate.ensures ∙ ap (λ z. splice c.loop-index.part (4 * c.loop-index.index) (put z)) same ∙ chunk_next put 4 (λ _. refl) _ _ _ (pos 0) _ c.loop-index-test.true c.loop-index.invariant
    )

pub returns : goal.returns
returns c =
    let e : c.loop-index.index ≡ length c.args.points.now = omega arith in
    rw (flat_map_map twos u32) (simp take-length at (rw e at c.loop-index.invariant))
