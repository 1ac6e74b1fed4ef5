-- Document 01, "The cage file", and document 02, §7 "Form 2 files": the checks of a file.
use Rattle.std.specs.Prelude.{ℕ, ◌+◌, ◌%◌, Bool, true, not, ◌&&◌, ◌||◌, List, [], ◌∷◌, ◌++◌, eqb, ltb, length, get_or}
use Rattle.halfedges.specs.Refusals.{Verdict, SHAPE, LIMIT, TWIN, SHORT, FIELD, EXTRA, given, given_at}
use Rattle.halfedges.specs.Counts.{above_limit}
use Rattle.tables.specs.Rules.{bad_twin}
use Rattle.cagefile.specs.declared.fields.Form.{Form}
use Rattle.cagefile.specs.declared.fields.Form.TheVariants.{One, Two}
use Rattle.cagefile.specs.Fields.{number, Head, opening}
use Rattle.cagefile.specs.Numbers.{u16_at}
use Rattle.filechecks.specs.Contents.{form_in, HIn, VIn, form_of, past, twins_in, heads_in}

-- "head cut short is 10; tag or length wrong is 11; payload cut short is 10", at the head's offset
unfoldable pub field_checks : List ℕ → ℕ → Head → List Verdict
field_checks f at h =
    given (ltb (length f) (at + 3)) (SHORT at)
    ∷ given (not (eqb (get_or f at 0) h.tag) || not (eqb (u16_at f (at + 1)) h.size)) (FIELD at)
    ∷ given (ltb (length f) (past at h)) (SHORT at)
    ∷ []

-- the form is none of these
abbrev pub other_form : List Form → List ℕ → Bool
other_form [] f = true
other_form (form ∷ forms) f = not (eqb (form_in f) (number form)) && other_form forms f

-- what is asked once a payload is whole, by the offset of its head
abbrev pub Asked : Type 0
Asked = ℕ → List Verdict

abbrev pub nothing : Asked
nothing at = []

-- "11 at 0 for a form other than 1 or 2, or other than a move starts from", "then H is 0 or no multiple of 3 is 1, then limits are 2"
unfoldable pub opening_asked : List Form → List ℕ → Asked
opening_asked forms f at =
    given (other_form forms f) (FIELD at)
    ∷ given (eqb (HIn f) 0 || not (eqb (HIn f % 3) 0)) SHAPE
    ∷ given (above_limit (HIn f) (VIn f) 0) LIMIT
    ∷ []

-- "Reading form 2 runs check 3 once tag 22's payload is whole and before tag 23's head is looked at"
unfoldable pub twins_asked : List ℕ → Asked
twins_asked f at = given_at (HIn f) (bad_twin (twins_in f)) TWIN ∷ []

-- "11 at tag 31's head for a weight byte above 1"
unfoldable pub weight_asked : List ℕ → Asked
weight_asked f at = given (ltb 1 (get_or f (at + 3) 0)) (FIELD at) ∷ []

-- of the fields after the first, in their order
abbrev pub later_asked : Form → List ℕ → List Asked
later_asked One f = []
later_asked Two f = nothing ∷ nothing ∷ twins_asked f ∷ nothing ∷ nothing ∷ weight_asked f ∷ []

-- fields one after another; "After the end field, 12"
unfoldable pub fields_checks : List ℕ → ℕ → List Head → List Verdict
fields_checks f at [] = given (ltb at (length f)) (EXTRA at) ∷ []
fields_checks f at (h ∷ hs) = field_checks f at h ++ fields_checks f (past at h) hs

-- and what is asked between them: "Reading goes front to back"
unfoldable pub front_to_back : List ℕ → ℕ → List Asked → List Head → List Verdict
front_to_back f at [] hs = fields_checks f at hs
front_to_back f at (q ∷ qs) [] = fields_checks f at []
front_to_back f at (q ∷ qs) (h ∷ hs) = field_checks f at h ++ (q at ++ front_to_back f (past at h) qs hs)

-- the checks of a file that is to have one of these forms
unfoldable pub file_checks : List Form → List ℕ → List Verdict
file_checks forms f = front_to_back f 0 (opening_asked forms f ∷ later_asked (form_of f) f) (opening ∷ heads_in f)

-- reading takes either form
abbrev pub both : List Form
both = One ∷ Two ∷ []
