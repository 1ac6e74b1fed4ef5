-- Every level of a cage that was refined can be written from its own part of the tables: `levels_writable`. Assumes nothing.
use Prim.Native.Nat.{ℕ, suc, ◌+◌, ◌*◌, ◌%◌, ◌^◌, ◌≤◌}
use mathlib.Core.Path.{◌≡◌, refl, sym, ap, ◌∙◌}
use mathlib.Core.Bool.{false}
use mathlib.Core.List.{List}
use native.Mathlib.Nat.{one-mul, mul_assoc, mul-div_cancel, mul-le-mul, pow-le-pow_right}
use native.Mathlib.Omega.{arith}
use lib.Dec.{lit<}
use lib.IntN.{ℤ}
use lib.ListN.{length}
use borrow.Author.Tests.{eq-eqb, ne_eqb, le-ltb, lt-leb}
use Rattle.laws.specs.Below.{end_to_end}
use Rattle.laws.specs.Parts.{in_front}
use Rattle.laws.proofs.EndToEnd.{own_part}
use Rattle.halfedges.specs.declared.table.HalfedgeTable.{HalfedgeTable}
use Rattle.halfedges.specs.Cage.{most_depth, F, cell}
use Rattle.halfedges.specs.Refusals.{DONE, SHAPE, LIMIT, VERTEX, POINT, first}
use Rattle.halfedges.specs.Counts.{Hs, Vs}
use Rattle.halfedges.proofs.Checks.{Clean, none, also, all_passed_done, is_passed, clean_done}
use Rattle.tables.specs.Tables.{Tables, counts_of}
use Rattle.splitting.specs.NextLevel.{level}
use Rattle.levels.specs.Internal.Filling.{tables_in_front}
use Rattle.levels.specs.Refining.{levels_end_to_end}
use Rattle.points.specs.declared.weights.Weight.{Weight}
use Rattle.points.specs.NextPoints.{level_points}
use Rattle.points.specs.Operations.{vertices, unshaped, out_of_range, refine_checks, refine_verdict}
use Rattle.refining.specs.Whole.{WholeInvariant}
use Rattle.refining.proofs.Whole.{accepted_whole}
use Rattle.refining.proofs.Refined.{both_done, counts_granted, refine_done}
use Rattle.refining.proofs.Readied.{level_long}
use Rattle.stl.specs.File.{stl_file}
use Rattle.stl.specs.Writing.{longest, past_points, stl_checks}
use Rattle.stl.proofs.FacetLaws.{file-length}
use Rattle.stllaws.specs.AnyLevel.{own_corners, own_places, Writable}

quarters : (q h f : ℕ) → h ≡ f * 3 → F (q * h) ≡ q * f
quarters q h f e = ap (λ n. F (q * n)) e ∙ ap F (sym (mul_assoc q f 3)) ∙ mul-div_cancel (q * f) (lit< tt)

module _ (w : Weight) (c : Tables) (creases : List ℕ) (points : List ℤ) (depth : ℕ) (x : Tables) (xp : List ℤ) (xc : List ℕ) (e : refine_verdict w c creases points depth x xp xc ≡ DONE) where
  abbrev t : HalfedgeTable
  t = counts_of c (vertices points)

  done : first (refine_checks w c creases points depth) ≡ DONE
  done = (both_done w c creases points depth x xp xc e).0

  deep : depth ≤ most_depth
  deep = (counts_granted w c creases points depth done refl).1

  kept : (d : ℕ) → d ≤ depth → WholeInvariant w c creases points d
  kept d l = accepted_whole w c creases points depth done d (omega (arith, deep))

  vert_long : (d : ℕ) → d ≤ depth → length (level t c d).vert ≡ Hs t d
  vert_long d l = (kept d l).tables.shaped.vert_long ∙ sym (kept d l).tables.quoted_halfedges

  module _ (d : ℕ) (l : d ≤ depth) where
    abbrev vert : List ℕ
    vert = (level t c d).vert

    abbrev places : List ℤ
    places = level_points w t c creases points d

    V_long : length places ≡ 3 * Vs t d
    V_long = level_long w c creases points depth x xp xc e d

    twin_long : length vert ≡ 4 ^ d * length c.twin
    twin_long = (kept d l).tables.shaped.vert_long ∙ (kept d l).tables.halfedges

    shaped : unshaped vert places ≡ false
    unfolding unshaped
    shaped =
        let s = (kept d l).tables.shaped in
        rw (
          ne_eqb (length vert) 0 (λ z. omega (arith, s.some, s.vert_long)),
          eq-eqb (length vert % 3) 0 (ap (λ n. n % 3) s.vert_long ∙ s.whole),
          eq-eqb (length places % 3) 0 (omega (arith, V_long)),
        )

    few : length vert ≤ longest
    few = let low : d ≤ most_depth = omega (arith, deep) in rw twin_long (mul-le-mul (pow-le-pow_right {n = 4} (omega arith) low) (counts_granted w c creases points depth done refl).0.halfedges)

    placed : Clean (length vert) (past_points vert (vertices places))
    unfolding past_points
    placed h b =
        let s = (kept d l).tables.shaped in
        lt-leb (vertices places) (cell vert h) (omega (arith, V_long, (kept d l).tables.ruled.placed.below h (omega (arith, s.vert_long))))

    ranged : Clean (length places) (out_of_range places)
    unfolding out_of_range
    ranged i b = le-ltb _ _ ((kept d l).in_range i b)

    passes : first (stl_checks vert places) ≡ DONE
    unfolding stl_checks
    passes =
        all_passed_done
        (also (is_passed _ SHAPE shaped)
        (also (is_passed _ LIMIT (le-ltb longest (length vert) few))
        (also (ap (λ v. v.number) (clean_done _ _ VERTEX placed)) (also (ap (λ v. v.number) (clean_done _ _ POINT ranged)) none))))

    room : length (stl_file vert places) ≡ 84 + 50 * (4 ^ d * F (length c.twin))
    unfolding level
    room =
        let whole = (kept 0 (omega arith)).tables.shaped.whole in
        file-length vert places ∙ ap (λ n. 84 + 50 * n) (ap F twin_long ∙ quarters (4 ^ d) (length c.twin) (F (length c.twin)) (omega (arith, whole)))

    corners_there : own_corners t d (in_front (end_to_end (suc depth) (λ k. (level t c k).vert)) x.vert) ≡ vert
    corners_there =
        rw (one-mul, one-mul) at
        (own_part 1 (λ k. (level t c k).vert) (Hs t) (suc depth) x.vert (λ k b. vert_long k (omega arith) ∙ sym (one-mul (Hs t k))) d (omega arith))

    places_there : own_places t d (in_front (end_to_end (suc depth) (level_points w t c creases points)) xp) ≡ places
    places_there = own_part 3 (level_points w t c creases points) (Vs t) (suc depth) xp (λ k _. level_long w c creases points depth x xp xc e k) d (omega arith)

    pub levels_writable : Writable w c creases points depth x xp xc d
    unfolding tables_in_front levels_end_to_end
    levels_writable =
        let after = refine_done w c creases points depth x xp xc e in
        record {
          corners = ap (λ u. own_corners t d u.vert) (sym after.1) ∙ corners_there;
          places = ap (own_places t d) (sym after.2) ∙ places_there;
          passes = passes;
          room = room;
        }
