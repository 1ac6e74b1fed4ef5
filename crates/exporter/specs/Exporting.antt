-- Document 02, §2 "STL out to the mill": what the disk program puts out for a file's bytes.
use Rattle.std.specs.Prelude.{ℕ, ◌≡◌, List, [], ℤ, Result, Ok, Err, IfOk, length, take}
use Rattle.laws.specs.Below.{end_to_end}
use Rattle.laws.specs.Parts.{in_front}
use Rattle.halfedges.specs.Cage.{F}
use Rattle.halfedges.specs.Refusals.{when_done}
use Rattle.tables.specs.Tables.{Tables}
use Rattle.filechecks.specs.Contents.{cage_in}
use Rattle.text.specs.declared.replies.Status.{Status}
use Rattle.text.specs.declared.replies.Status.TheVariants.{Answered}
use Rattle.text.specs.declared.replies.Written.{Written}
use Rattle.text.specs.Replies.{Reply, refused, status_number}
use Rattle.intake.specs.Intake.{check_file, file_reply}
use Rattle.stl.specs.File.{facet_at, stl_head, stl_file}
use Rattle.exporter.specs.declared.exporting.Opened.{Opened}

-- "level 0's STL"
abbrev pub level_stl : Tables → List ℤ → List ℕ
level_stl c points = stl_file c.vert points

-- "turns a cage file on standard input into level 0's STL .., or prints the lister's refusal line"
abbrev pub exporting : List ℕ → Reply
exporting = file_reply level_stl

-- VERT and points of the facets that are put out, none where the cage is refused
unfoldable pub corners_out : List ℕ → List ℕ
corners_out f = when_done (check_file f).verdict (cage_in f).connectivity.vert []

unfoldable pub places_out : List ℕ → List ℤ
places_out f = when_done (check_file f).verdict (cage_in f).points []

-- what is put out before them: the head of the STL, or the refusal's line
unfoldable pub opening : List ℕ → List ℕ
opening f =
    let verdict = (check_file f).verdict in
    when_done verdict (stl_head (F (length (cage_in f).connectivity.vert))) (refused verdict).text

-- and then "a facet at a time": with the opening before them these are the reply's text (`parts_whole`)
abbrev pub facets_out : List ℕ → List ℕ
facets_out f = end_to_end (F (length (corners_out f))) (facet_at (corners_out f) (places_out f))

-- the status that is told: of an answer, or of the refusal
abbrev pub status_of : Result Opened Written → Status
status_of (Ok o) = o.status
status_of (Err w) = w.status

-- the lengths that are told: a refusal's line goes before no facets
abbrev pub lengths_of : Result Opened Written → Opened
lengths_of (Ok o) = o
lengths_of (Err w) = record { status = w.status; length = w.length; halfedges = 0; coordinates = 0 }

-- the opening stands in front of what the lent text held, and VERT and points of the facets at the fronts of their tables; its length,
-- the status and the lengths of both are told, and `Ok` tells an answer
pub record Opens (f before after vert : List ℕ) (points : List ℤ) (told : Result Opened Written) : Type 0 where
  pub status : status_number (status_of told) ≡ (exporting f).status
  pub answered : IfOk told (λ o. o.status ≡ Answered)
  pub text : after ≡ in_front (opening f) before
  pub ends : (lengths_of told).length ≡ length (opening f)
  pub corners : take (lengths_of told).halfedges vert ≡ corners_out f
  pub places : take (lengths_of told).coordinates points ≡ places_out f
