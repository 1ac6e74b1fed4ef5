-- How many cells each table in a file has. Assumes nothing.
use Prim.Native.Nat.{ℕ, ◌*◌}
use mathlib.Core.Path.{◌≡◌}
use mathlib.Core.List.{List}
use lib.ListN.{length}
use Rattle.laws.proofs.Tabulate.{length-tabulate}
use Rattle.filechecks.specs.Contents.{HIn, VIn, EIn, twins_in, verts_in, edges_in, creases_read, points_in}

module _ (f : List ℕ) where
  pub twins-length : length (twins_in f) ≡ HIn f
  unfolding twins_in
  twins-length = length-tabulate (HIn f) _

  pub verts_length : length (verts_in f) ≡ HIn f
  unfolding verts_in
  verts_length = length-tabulate (HIn f) _

  pub edges_length : length (edges_in f) ≡ HIn f
  unfolding edges_in
  edges_length = length-tabulate (HIn f) _

  pub creases_length : length (creases_read f) ≡ EIn f
  unfolding creases_read
  creases_length = length-tabulate (EIn f) _

  pub points_length : length (points_in f) ≡ 3 * VIn f
  unfolding points_in
  points_length = length-tabulate (3 * VIn f) _
