-- The creases of the cage's vertices, counted. Assumes nothing.
--     bumped_few, ends_added                    one more at one vertex, and at both ends of a halfedge
--     border-added, sharp_added, none_added     what one halfedge adds, by what it is
--     tallied_none, tallied_on, tallied_few     the first ones, one more at a time, and that no count is large
--     tallied_all, counted_lists                all of them, and the list of the first vertices' counts
use Prim.Native.Nat.{ℕ, ◌+◌, ◌^◌, ◌≤◌, ◌<◌}
use mathlib.Core.Path.{◌≡◌, sym, ◌∙◌}
use mathlib.Core.Logic.{◌≢◌}
use mathlib.Core.Bool.{Bool, true, false, cond}
use mathlib.Core.List.{List}
use native.Mathlib.Numerals.{add-one}
use native.Mathlib.Omega.{arith}
use lib.Dec.{eqb, ltb}
use lib.ListN.{length, take}
use lib.Seq.{get_or-take, length-take-le, ext_get_or}
use borrow.Author.Tests.{eq-eqb, ne_eqb}
use Rattle.laws.proofs.Tests.{or_true}
use Rattle.laws.proofs.Counts.{count_at_most}
use Rattle.laws.proofs.Tabulate.{length-tabulate, get_d_tabulate}
use Rattle.halfedges.specs.Cage.{most_halfedges, marker, cell}
use Rattle.tables.specs.Tables.{Tables}
use Rattle.points.specs.NextPoints.{far}
use Rattle.points.specs.Internal.Relied.{border_ends}
use Rattle.points.specs.Internal.Creased.{creases_after, listed_after}
use Rattle.seams.specs.Internal.Tally.{leaves_after, CreasesTallied, FewCounted, EndsAdded, CreasesAdded, CreasesCounted}

-- one more of a number
abbrev Bumped : ℕ → List ℕ → List ℕ → Type 0
Bumped number before counts = (u : ℕ) → u < length before → cell counts u ≡ cell before u + cond (eqb number u) 1 0

at_most_one : (b : Bool) → cond b 1 0 ≤ 1
at_most_one true = omega arith
at_most_one false = omega arith

module _ (before counts : List ℕ) (long : length counts ≡ length before) (vert : List ℕ) (h : ℕ) (first : Bumped (cell vert h) before counts) where
  pub bumped_few : FewCounted before → (u : ℕ) → u < length counts → cell counts u < 2 ^ 31
  bumped_few few u l = omega (arith, first u (omega arith), few u (omega arith), at_most_one (eqb (cell vert h) u))

  pub ends_added : (after : List ℕ) {to : ℕ} → to ≡ far vert h → Bumped to counts after → EndsAdded vert h before after
  ends_added after q second = record { each = λ u l. rw (← q) (omega (arith, first u l, second u (omega arith))) }

module _ (d : ℕ) (c : Tables) (creases : List ℕ) where
  module _ (h : ℕ) (before : List ℕ) where
    pub border-added : {counts : List ℕ} → cell c.twin h ≡ marker → EndsAdded c.vert h before counts → CreasesAdded h d c creases before counts
    border-added t a = record { each = λ u l. rw (eq-eqb _ marker t, or_true) (a.each u l) }

    module _ (t : cell c.twin h ≢ marker) where
      pub sharp_added : {counts : List ℕ} → ltb d (cell creases (cell c.edge h)) ≡ true → Bumped (cell c.vert h) before counts → CreasesAdded h d c creases before counts
      sharp_added s a = record { each = λ u l. rw (ne_eqb _ marker t, s) (a u l ∙ omega arith) }

      pub none_added : ltb d (cell creases (cell c.edge h)) ≡ false → CreasesAdded h d c creases before before
      none_added s = record { each = λ u l. rw (ne_eqb _ marker t, s) (omega arith) }

  pub tallied_none : {counts : List ℕ} → ((u : ℕ) → u < length counts → cell counts u ≡ 0) → CreasesTallied 0 d c creases counts
  tallied_none z = record { each = z }

  pub tallied_on : {n : ℕ} {before counts : List ℕ} → length counts ≡ length before → CreasesTallied n d c creases before → CreasesAdded n d c creases before counts → CreasesTallied (n + 1) d c creases counts
  tallied_on {n} long t a = record { each = λ u l. rw (add-one n) (omega (arith, t.each u (omega arith), a.each u (omega arith))) }

  pub tallied_few : {n : ℕ} {counts : List ℕ} → n ≤ most_halfedges → CreasesTallied n d c creases counts → FewCounted counts
  tallied_few {n} b t u l = omega (arith, t.each u l, count_at_most n (leaves_after d c creases u), count_at_most n (border_ends c.twin c.vert u))

  pub tallied_all : {n : ℕ} {counts : List ℕ} → n ≡ length c.vert → CreasesTallied n d c creases counts → CreasesCounted d c creases counts
  unfolding creases_after
  tallied_all e t = record { each = λ u l. rw (← e) (t.each u l) }

  -- the creases of the first v vertices, as the tally has them
  pub counted_lists : (v : ℕ) (counts : List ℕ) → v ≤ length counts → CreasesCounted d c creases counts → take v counts ≡ listed_after d c creases v
  counted_lists v counts l counted =
      let long : length (take v counts) ≡ v = length-take-le v counts l in
      ext_get_or 0 (take v counts) (listed_after d c creases v) (long ∙ sym (length-tabulate v (creases_after d c creases)))
      (λ i b.
      let li : i < v = rw long at b in
      get_or-take v counts i 0 li ∙ counted.each i (omega arith) ∙ sym (get_d_tabulate v (creases_after d c creases) i 0 li))
