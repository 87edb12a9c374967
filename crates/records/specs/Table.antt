-- Document 01, "What is lent, and each refusal": what a place of the record table means, and what it is that its named places are zero.
-- Assumes nothing.
use Rattle.std.specs.Prelude.{ℕ, ◌<◌, ◌≡◌, cond, List, eqb, length, get_or, drop}
use Rattle.meaning.specs.Following.{Rec, eq, app}
use Rattle.meaning.specs.Limits.{named_places}
use Rattle.records.specs.declared.Record.{Record}

-- A place that is zero: kind 0, no record.
abbrev pub blank : Record
blank = record { kind = 0; a = record { 0 = 0 }; b = record { 0 = 0 }; c = record { 0 = 0 }; sheet = 0 }

-- How a record and its sheet stand in a place: kind 1 with a, b and zero, or kind 2 with a, b, c. "Every record kept inside carries it."
abbrev pub place_of : Rec → ℕ → Record
place_of (eq a b) h = record { kind = 1; a = record { 0 = a }; b = record { 0 = b }; c = record { 0 = 0 }; sheet = h }
place_of (app a b c) h = record { kind = 2; a = record { 0 = a }; b = record { 0 = b }; c = record { 0 = c }; sheet = h }

-- The record that a place means. (A place of another kind holds no record, and is never asked.)
abbrev pub rec_of : Record → Rec
rec_of p = cond (eqb p.kind 1) (eq p.a.0 p.b.0) (app p.a.0 p.b.0 p.c.0)

-- "The named places .. (the first 4,000 ..) are zero and the rest is as it was": from a table t to t'.
pub record Blanked (t t' : List Record) : Type 0 where
  pub size : length t' ≡ length t
  pub zero : (i : ℕ) → i < named_places → get_or t' i blank ≡ blank
  pub rest : drop named_places t' ≡ drop named_places t
