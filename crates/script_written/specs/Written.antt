-- DEFINITIONS: the items of document 01's job that a script's fields are. Kinds 01 and 02 are records, 05 notes that two tags must differ, 06 asks. Assumes nothing.
use Rattle.std.specs.Prelude.{false, List, map}
use Rattle.script_terms.specs.Terms.{Command}
use Rattle.script_terms.specs.Flat.{Item, noted, differing, checking, tags_of, items_of}
use Rattle.job_field.specs.Items as job

abbrev pub item_of : Item → job.Item
item_of (noted r) = job.noted (job.line r 0)
item_of (differing a b) = job.noted (job.differ a b)
item_of checking = job.posed job.broken

-- "The header has length 2": "A header of length 2 means U = N." So the job is of edition 1, and no record has a sheet.
abbrev pub head_for : List Command → job.Head
head_for cs = record { size = tags_of cs; units = tags_of cs; sheeted = false }

abbrev pub items_for : List Command → List job.Item
items_for cs = map item_of (items_of cs)
