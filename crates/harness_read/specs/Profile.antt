-- DEFINITIONS, to be read against document 02, No. 8, "refuses kind 02" and "Refusals: 4 for kind 02 here": the reading of the harness profile, field by field as document 01
-- has it, with 02 for an unknown kind. Assumes nothing.
use Rattle.std.specs.Prelude.{ℕ, zero, suc, ◌+◌, Bool, true, false, cond, ◌&&◌, List, [], ◌∷◌, leb, ltb, length}
use Rattle.meaning.specs.Following.{eq, app}
use Rattle.job_field.specs.Items.{Head, line, differ, Item, noted, posed, Moment, start, Reading, refused, accepted, unsized}
use Rattle.job_field.specs.Reading.{Kind, first, first-units, first-sheets, record-eq, record-app, sheeted-eq, sheeted-app, note-differ, question-ask, question-explain, question-broken, question-why, last, unknown, byte_at, length_at, behind_at, sheeted_in, kind_at, Field, bad, header, item, end, or_else, field_of_kind, field_standing, checked, onward}

-- A kind in this profile: 02 is unknown, in both editions.
abbrev pub harness_kind : Kind → Kind
harness_kind first = first
harness_kind first-units = first-units
harness_kind first-sheets = first-sheets
harness_kind record-eq = record-eq
harness_kind record-app = unknown
harness_kind sheeted-eq = sheeted-eq
harness_kind sheeted-app = unknown
harness_kind note-differ = note-differ
harness_kind question-ask = question-ask
harness_kind question-explain = question-explain
harness_kind question-broken = question-broken
harness_kind question-why = question-why
harness_kind last = last
harness_kind unknown = unknown

-- The field at a place: the first half of the order, as `field_standing` has it. So 4 comes before the length of an 02, its body, its count and its tags.
unfoldable pub harness_field : List ℕ → ℕ → Field
harness_field job at = or_else (leb (at + 3) (length job)) 3 (field_of_kind job at (harness_kind (kind_at (sheeted_in job) at (byte_at job at) (length_at job at))))

-- Reading from a place, and the whole job, as `read_from` and `reading`.
unfoldable pub harness_from : ℕ → List ℕ → Head → Moment → ℕ → Reading
harness_from zero job H b at = refused 3 at
harness_from (suc n) job H b at = onward (harness_from n job) job H b at (checked H b (harness_field job at))

unfoldable pub harness_reading : List ℕ → Reading
harness_reading job = harness_from (suc (length job)) job unsized start 0

-- Every record is an equation.
abbrev pub Equations : List Item → Type 0
Equations [] = Unit {0}
Equations (noted (line (eq a b) h) ∷ is) = Equations is
Equations (noted (line (app a b c) h) ∷ is) = ⊥
Equations (noted (differ a b) ∷ is) = Equations is
Equations (posed q ∷ is) = Equations is

-- MACHINERY: the place of the first field of kind 02 that a walk over the fields comes to, with no limits tested.
pub data Place : Type 0 where
  none : Place
  some : ℕ → Place

abbrev pub is_apply : Kind → Bool
is_apply first = false
is_apply first-units = false
is_apply first-sheets = false
is_apply record-eq = false
is_apply record-app = true
is_apply sheeted-eq = false
is_apply sheeted-app = true
is_apply note-differ = false
is_apply question-ask = false
is_apply question-explain = false
is_apply question-broken = false
is_apply question-why = false
is_apply last = false
is_apply unknown = false

unfoldable pub marked : List ℕ → ℕ → Bool
marked job at = leb (at + 3) (length job) && is_apply (kind_at (sheeted_in job) at (byte_at job at) (length_at job at))

-- The walk ends at a field that is refused, and at the end field.
abbrev pub ends_at : Field → Bool
ends_at (bad n) = true
ends_at (header M) = false
ends_at (item i) = false
ends_at end = true

unfoldable pub apply_from : ℕ → List ℕ → ℕ → Place
apply_from zero job at = none
apply_from (suc n) job at = cond (marked job at) (some at) (cond (ends_at (field_standing job at)) none (apply_from n job (behind_at job at)))

-- What both tell: a refusal before that place stands, and otherwise it is 4 there.
abbrev pub both : Reading → Place → Reading
both r none = r
both (refused n q) (some p) = cond (ltb q p) (refused n q) (refused 4 p)
both (accepted H is) (some p) = refused 4 p

-- What the walk answers, with the job's length for none.
abbrev pub place_in : ℕ → ℕ → Place
place_in size p = cond (ltb p size) (some p) none
