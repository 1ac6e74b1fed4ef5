-- In a file of form 2 that reads the length in the creases' head is E; in form 1 there are none.
use Prim.Native.Nat.{◌+◌, ◌*◌}
use mathlib.Core.Path.{sym, ap, ◌∙◌}
use native.Mathlib.Omega.{arith}
use Rattle.cagefile.specs.Numbers.{u16_at}
use Rattle.filechecks.specs.Contents.{edges_for, twins_in}
use Rattle.filechecks.proofs.Sound.{edges_few, creases_head, creases_whole, sound_length}
use Rattle.filechecks.proofs.edges_in.Goals as goal

pub form_of-requires : goal.form_of-requires
form_of-requires c = omega (arith, sound_length _ c.requires)

pub halfedges_in-requires : goal.halfedges_in-requires
halfedges_in-requires c = omega (arith, sound_length _ c.requires)

pub number_at-requires : goal.number_at-requires
number_at-requires c = rw (c.after_tables-head.ensures, c.halfedges_in.ensures.0) (creases_whole _ c.requires (sym c.form_of.ensures ∙ c.in-Two.is))

pub returns-in-Two : goal.returns-in-Two
returns-in-Two c =
    let f = c.args.file.now in
    let two = sym c.form_of.ensures ∙ c.in-Two.is in
    let head = c.after_tables-head.ensures ∙ ap (λ h. 18 + 6 * h) c.halfedges_in.ensures.0 in
    let e = c.number_at.ensures.0 ∙ ap (λ a. u16_at f (a + 1)) head ∙ creases_head f c.requires two in
    (e ∙ sym (ap (λ form. edges_for form (twins_in f)) two), omega (arith, e, edges_few f, c.requires.few_halfedges))
