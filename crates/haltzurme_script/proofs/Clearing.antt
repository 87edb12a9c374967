-- From the call beside the record table to the call with it. Assumes nothing.
use Prim.Native.Nat.{ℕ, ◌≤◌}
use native.Mathlib.Omega.{arith}
use mathlib.Core.Path.{◌≡◌}
use mathlib.Core.Bool.{Bool, true, false}
use mathlib.Core.List.{List}
use lib.ListN.{length}
use Rattle.meaning.specs.Limits.{named_places}
use Rattle.records.specs.declared.Record.{Record}
use Rattle.records.specs.Table.{Blanked}
use Rattle.script_call.specs.Translating.{Rested, long as long-beside, narrow as narrow-beside, read as read-beside}
use Rattle.haltzurme_script.specs.Translated.{Translated, long, narrow, read}

pub rested-places : {script room : List ℕ} (records : List Record) {work : List ℕ} {b : Bool} {n p l : ℕ} {room' work' : List ℕ} → Rested script room (length records) work b n p l room' work' → b ≡ true → named_places ≤ length records
rested-places records (long-beside h) e = let z : ◌≡◌ {A = ℕ} 0 1 = cc in absurd (omega arith)
rested-places records (narrow-beside h x) e = let z : ◌≡◌ {A = ℕ} 0 1 = cc in absurd (omega arith)
rested-places records (read-beside E h c w) e = h

pub rested-cleared : {script room : List ℕ} (records : List Record) {work : List ℕ} {b : Bool} {n p l : ℕ} {room' work' : List ℕ} → Rested script room (length records) work b n p l room' work' → b ≡ true → {records' : List Record} → Blanked records records'
    → Translated script room records work b n p l room' records' work'
rested-cleared records (long-beside h) e x = let z : ◌≡◌ {A = ℕ} 0 1 = cc in absurd (omega arith)
rested-cleared records (narrow-beside h y) e x = let z : ◌≡◌ {A = ℕ} 0 1 = cc in absurd (omega arith)
rested-cleared records (read-beside E h c w) e x = read E h c (record { blanked = x; cleared = w })

pub rested-kept : {script room : List ℕ} (records : List Record) {work : List ℕ} {b : Bool} {n p l : ℕ} {room' work' : List ℕ} → Rested script room (length records) work b n p l room' work' → b ≡ false → Translated script room records work b n p l room' records work'
rested-kept records (long-beside h) e = long h
rested-kept records (narrow-beside h y) e = narrow h y
rested-kept records (read-beside E h c w) e = let z : ◌≡◌ {A = ℕ} 0 1 = cc in absurd (omega arith)
