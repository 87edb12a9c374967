-- `halve` meets its contract: one half is added, the other halved, and back; then the other way round. Assumes nothing.
use native.Mathlib.Omega.{arith}
use Rattle.list_halve.proofs.Steps.{parts_first, parts-second, adding-of, ready-add, done-standing, done-up, round-done, ready-done, done-both, done_none, done-one}
use Rattle.list_halve.proofs.+halve.Goals as goal

pub returns-then-level : goal.returns-then-level
returns-then-level t c = done_none c.requires c.level.ensures c.if-level.true c.blank_each.ensures

pub halve-requires : goal.halve-requires
halve-requires t c =
    let m = c.middle-mid.ensures in
    (omega (arith, m.0, m.1), ready-add (parts_first m.0 m.1) c.requires c.add_each-i.ensures)

pub go_back-requires : goal.go_back-requires
go_back-requires t c =
    let m = c.middle-mid.ensures in
    let r = c.requires in
    let p = parts_first m.0 m.1 in
    (done-standing p r c.add_each-i.ensures c.halve.ensures, done-up p r c.add_each-i.ensures c.halve.ensures, omega (arith, m.0), omega (arith, m.1, r.adding.top, r.adding.rested.short))

pub add_each-j-requires : goal.add_each-j-requires
add_each-j-requires t c =
    let m = c.middle-mid.ensures in
    let r = c.requires in
    let d = round-done (parts_first m.0 m.1) r c.add_each-i.ensures c.halve.ensures c.go_back.ensures in
    adding-of (parts-second m.0 m.1) (ready-done (omega (arith, m.0)) (omega arith) r d)

pub halve-requires-then-lo-hi : goal.halve-requires-then-lo-hi
halve-requires-then-lo-hi t c =
    let m = c.middle-mid.ensures in
    let r = c.requires in
    let d = round-done (parts_first m.0 m.1) r c.add_each-i.ensures c.halve.ensures c.go_back.ensures in
    (omega (arith, m.0, m.1), ready-add (parts-second m.0 m.1) (ready-done (omega (arith, m.0)) (omega arith) r d) c.add_each-j.ensures)

pub go_back-requires-then-lo-hi : goal.go_back-requires-then-lo-hi
go_back-requires-then-lo-hi t c =
    let m = c.middle-mid.ensures in
    let r = c.requires in
    let d = round-done (parts_first m.0 m.1) r c.add_each-i.ensures c.halve.ensures c.go_back.ensures in
    let p = parts-second m.0 m.1 in
    let r' = ready-done (omega (arith, m.0)) (omega arith) r d in
    (done-standing p r' c.add_each-j.ensures c.halve-then-lo-hi.ensures, done-up p r' c.add_each-j.ensures c.halve-then-lo-hi.ensures, omega (arith, m.1), omega (arith, r.adding.top, r.adding.rested.short))

pub returns-then-lo-hi : goal.returns-then-lo-hi
returns-then-lo-hi t c =
    let m = c.middle-mid.ensures in
    let r = c.requires in
    let d = round-done (parts_first m.0 m.1) r c.add_each-i.ensures c.halve.ensures c.go_back.ensures in
    let r' = ready-done (omega (arith, m.0)) (omega arith) r d in
    done-both (omega (arith, m.0)) (omega (arith, m.1)) d (round-done (parts-second m.0 m.1) r' c.add_each-j.ensures c.halve-then-lo-hi.ensures c.go_back-then-lo-hi.ensures)

pub returns-else-lo-hi : goal.returns-else-lo-hi
returns-else-lo-hi t c = done-one c.requires c.level.ensures c.if-level.false (omega arith)
