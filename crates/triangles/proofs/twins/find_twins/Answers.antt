-- `find_twins` takes small corner numbers as they are, and others narrowed.
use Prim.Native.Nat.{ℕ, ◌%◌, ◌≤◌, ◌<◌}
use mathlib.Core.Path.{◌≡◌, ap, ap₂, ◌∙◌}
use mathlib.Core.List.{List}
use native.Mathlib.Omega.{arith}
use lib.Dec.{eqb}
use lib.ListN.{length, take}
use lib.Seq.{length-take-le, get_or-take}
use Rattle.laws.specs.Parts.{in_front}
use Rattle.alike.specs.Internal.Narrowed.{Small}
use Rattle.halfedges.specs.Cage.{cell}
use Rattle.triangles.specs.Internal.Joining.{Whole}
use Rattle.triangles.proofs.Renumbered.{doubled_same, twins_same}
use Rattle.triangles.proofs.twins.find_twins.Goals as goal
use Rattle.triangles.proofs.twins.find_twins.Goals.{After-narrow, Start}

-- once the corners are narrowed: small numbers that are the same where they are
module _ (c : After-narrow) where
  abbrev start : Start
  start = (goal.at.After-narrow c).Start

  abbrev vert : List ℕ
  vert = start.args.vert.now

  abbrev corners : List ℕ
  corners = take (length vert) c.narrow.new.small

  room : length vert ≤ length c.narrow.new.small
  room = omega (arith, c.narrow.auto.small, start.requires.0.few)

  long : length corners ≡ length vert
  long = length-take-le (length vert) c.narrow.new.small room

  corner : (h : ℕ) → h < length vert → cell corners h ≡ cell c.narrow.new.small h
  corner h l = get_or-take (length vert) c.narrow.new.small h 0 l

  whole : Whole corners
  whole = record { whole = by_three long; few = omega (arith, long, start.requires.0.few) }
    where
      by_three : {n : ℕ} → n ≡ length vert → n % 3 ≡ 0
      by_three e = rw e start.requires.0.whole

  small : Small corners
  small = record { each = λ h l. let m : h < length vert = omega (arith, long) in rw (corner h m) (c.narrow.ensures.below h m) }

  same : (g h : ℕ) → g < length vert → h < length vert → eqb (cell corners g) (cell corners h) ≡ eqb (cell vert g) (cell vert h)
  same g h m l = ap₂ eqb (corner g m) (corner h l) ∙ c.narrow.ensures.same g h m l

pub returns : goal.returns
returns c =
    let w = (start (goal.at.returns c).After-narrow).requires.0 in
    record {
      first = c.join-2.ensures.first ∙ doubled_same (vert (goal.at.returns c).After-narrow) (corners (goal.at.returns c).After-narrow) w (long (goal.at.returns c).After-narrow) (same (goal.at.returns c).After-narrow);
      twins = λ l. c.join-2.ensures.twins (omega (arith, l, long (goal.at.returns c).After-narrow)) ∙ ap (λ t. in_front t (start (goal.at.returns c).After-narrow).args.twin.now) (twins_same (vert (goal.at.returns c).After-narrow) (corners (goal.at.returns c).After-narrow) w (long (goal.at.returns c).After-narrow) (same (goal.at.returns c).After-narrow));
    }
