-- `copy_rest` hands the points, and in form 2 first the creases, to a copier, at the offsets where the definition reads them.
use Prim.Native.Nat.{ℕ, ◌+◌, ◌*◌, ◌≤◌}
use mathlib.Core.Path.{◌≡◌, sym, ap, ◌∙◌}
use mathlib.Core.List.{List}
use native.Mathlib.Omega.{arith}
use lib.ListN.{length}
use Rattle.laws.specs.Parts.{in_front}
use Rattle.cagefile.specs.declared.fields.Form.TheVariants.{Two}
use Rattle.cagefile.proofs.Fits.{extra}
use Rattle.filechecks.specs.Contents.{HIn, VIn, EIn, form_of}
use Rattle.filechecks.specs.Internal.Sound.{Sound}
use Rattle.filechecks.proofs.Sound.{sound_length}
use Rattle.filechecks.proofs.Places.{creases_at_lem, no_creases_lem, plain_points, creased_points, plain_weight, creased_weight}
use Rattle.reading.proofs.copy_rest.Goals as goal

-- how long a file is that reads
module _ (f : List ℕ) (s : Sound f) where
  long : 24 + 6 * HIn f + 12 * VIn f ≤ length f
  long = omega (arith, sound_length f s)

  creased_long : form_of f ≡ Two → length f ≡ 31 + 6 * HIn f + 12 * VIn f + EIn f
  creased_long two =
      let k : extra (form_of f) (EIn f) ≡ 7 + EIn f = ap (λ form. extra form (EIn f)) two in
      omega (arith, sound_length f s)

pub vertices_in-coordinates-requires : goal.vertices_in-coordinates-requires
vertices_in-coordinates-requires c = omega (arith, long _ c.requires.0)

pub halfedges_in-requires : goal.halfedges_in-requires
halfedges_in-requires c = omega (arith, long _ c.requires.0)

pub form_of-requires : goal.form_of-requires
form_of-requires c = omega (arith, long _ c.requires.0)

pub after_tables-at-requires : goal.after_tables-at-requires
after_tables-at-requires c = rw c.halfedges_in.ensures.0 c.requires.0.few_halfedges

pub copy_points-requires : goal.copy_points-requires
copy_points-requires c =
    (omega (arith, long _ c.requires.0, c.halfedges_in.ensures.0, c.vertices_in-coordinates.ensures.0, c.after_tables-at.ensures), omega (arith, c.requires.1, c.vertices_in-coordinates.ensures.0))

pub returns-in-One : goal.returns-in-One
returns-in-One c =
    let f = c.args.file.now in
    let h = c.halfedges_in.ensures.0 in
    let v = c.vertices_in-coordinates.ensures.0 in
    let one = sym c.form_of.ensures ∙ c.in-One.is in (
      plain_weight f _ _ h v one,
      rw (c.after_tables-at.ensures, plain_points f _ _ h v one) at c.copy_points.ensures,
      sym (ap (λ t. in_front t c.args.creases.now) (no_creases_lem f _ _ h v one)),
    )

pub copy_creases-requires : goal.copy_creases-requires
copy_creases-requires c =
    let all = creased_long _ c.requires.0 (sym c.form_of.ensures ∙ c.in-Two.is) in
    (omega (arith, all, c.halfedges_in.ensures.0, c.after_tables-at.ensures, c.edges_in-edges.ensures.0), omega (arith, c.requires.2, c.edges_in-edges.ensures.0))

pub copy_points-requires-in-Two : goal.copy_points-requires-in-Two
copy_points-requires-in-Two c =
    let all = creased_long _ c.requires.0 (sym c.form_of.ensures ∙ c.in-Two.is) in
    (omega (arith, all, c.halfedges_in.ensures.0, c.vertices_in-coordinates.ensures.0, c.after_tables-at.ensures, c.edges_in-edges.ensures.0), omega (arith, c.requires.1, c.vertices_in-coordinates.ensures.0))

pub bounds-file-points_at : goal.bounds-file-points_at
bounds-file-points_at c =
    omega (arith, creased_long _ c.requires.0 (sym c.form_of.ensures ∙ c.in-Two.is), c.halfedges_in.ensures.0, c.vertices_in-coordinates.ensures.0, c.after_tables-at.ensures, c.edges_in-edges.ensures.0)

pub returns-in-Two : goal.returns-in-Two
returns-in-Two c =
    let f = c.args.file.now in
    let h = c.halfedges_in.ensures.0 in
    let v = c.vertices_in-coordinates.ensures.0 in
    let two = sym c.form_of.ensures ∙ c.in-Two.is in
    let e = c.edges_in-edges.ensures.0 in (
      rw (c.from.ensures, c.after_tables-at.ensures, creased_weight f _ _ h v two _ e) at c.from-in-Two.ensures,
      rw (c.after_tables-at.ensures, creased_points f _ _ h v two _ e) at c.copy_points-in-Two.ensures,
      rw (c.after_tables-at.ensures, creases_at_lem f _ _ h e) at c.copy_creases.ensures,
    )
