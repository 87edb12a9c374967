-- `equate` meets its contract. Where the two tags have one label the equation holds already; otherwise the join is due, and
-- it holds after that.
-- Assumes nothing.
use borrow.Author.Tests.{eqb-true, eqb-false}
use mathlib.Core.Path.{◌≡◌, sym, ap, ◌∙◌}
use Prim.Native.Nat.{ℕ, suc, ◌/◌, ◌%◌, ◌<◌, ◌≤◌}
use native.Mathlib.Omega.{arith}
use Rattle.meaning.specs.Limits.{most_records}
use Rattle.table.specs.Map.{left_of, right_of, label_of}
use Rattle.table_labels.specs.Parts.{key_in}
use Rattle.all_index.proofs.Views.{row-readable}
use Rattle.all_close.proofs.Entering.{counted-equated, next_low, equate-standing, equate-key, equate-stay, equate-joining, equate-joined}
use Rattle.all_close.proofs.equate.Goals as goal

pub key-x-requires : goal.key-x-requires
key-x-requires c = row-readable (equate-standing c.requires.0.between c.requires.0.low c.requires.1 _ c.put_chain.ensures).loaded c.args.i c.requires.0.low _ c.number-r.ensures

pub tag_at-a-requires : goal.tag_at-a-requires
tag_at-a-requires c =
    let labels : let w = c.put_chain.new.work in let i = c.args.i in
    (c.key-x.result / 65536 ≡ label_of w (left_of w (suc i))) × (c.key-x.result % 65536 ≡ label_of w (right_of w (suc i))) × (c.key-x.result / 65536 < 65536) = equate-key c.requires.0.between c.requires.0.low c.requires.1 _ c.put_chain.ensures c.key-x.result (c.key-x.ensures ∙ ap (key_in c.put_chain.new.work) c.number-r.ensures) in
    labels.2

pub returns-then-eq : goal.returns-then-eq
returns-then-eq c =
    let labels : let w = c.put_chain.new.work in let i = c.args.i in
    (c.key-x.result / 65536 ≡ label_of w (left_of w (suc i))) × (c.key-x.result % 65536 ≡ label_of w (right_of w (suc i))) × (c.key-x.result / 65536 < 65536) = equate-key c.requires.0.between c.requires.0.low c.requires.1 _ c.put_chain.ensures c.key-x.result (c.key-x.ensures ∙ ap (key_in c.put_chain.new.work) c.number-r.ensures) in
    counted-equated c.requires.0.counted (equate-stay c.requires.0.between c.requires.0.low c.requires.1 _ c.put_chain.ensures (sym labels.0 ∙ sym c.tag_at-a.ensures ∙ eqb-true _ _ (sym c.eq.ensures ∙ c.if-eq.true) ∙ c.tag_at-b.ensures ∙ labels.1))

pub join-first-requires : goal.join-first-requires
join-first-requires c =
    let labels : let w = c.put_chain.new.work in let i = c.args.i in
    (c.key-x.result / 65536 ≡ label_of w (left_of w (suc i))) × (c.key-x.result % 65536 ≡ label_of w (right_of w (suc i))) × (c.key-x.result / 65536 < 65536) = equate-key c.requires.0.between c.requires.0.low c.requires.1 _ c.put_chain.ensures c.key-x.result (c.key-x.ensures ∙ ap (key_in c.put_chain.new.work) c.number-r.ensures) in
    equate-joining c.requires.0.between c.requires.0.low c.requires.1 _ c.put_chain.ensures _ _ _ _ c.requires.0.counted c.number-r.ensures (c.tag_at-a.ensures ∙ labels.0) (c.tag_at-b.ensures ∙ labels.1) (eqb-false _ _ (sym c.eq.ensures ∙ c.if-eq.false))

pub returns : goal.returns
returns c =
    let labels : let w = c.put_chain.new.work in let i = c.args.i in
    (c.key-x.result / 65536 ≡ label_of w (left_of w (suc i))) × (c.key-x.result % 65536 ≡ label_of w (right_of w (suc i))) × (c.key-x.result / 65536 < 65536) = equate-key c.requires.0.between c.requires.0.low c.requires.1 _ c.put_chain.ensures c.key-x.result (c.key-x.ensures ∙ ap (key_in c.put_chain.new.work) c.number-r.ensures) in
    counted-equated c.requires.0.counted (equate-joined c.requires.0.between c.requires.0.low c.requires.1 _ c.put_chain.ensures c.requires.0.counted (c.tag_at-a.ensures ∙ labels.0) (c.tag_at-b.ensures ∙ labels.1) (eqb-false _ _ (sym c.eq.ensures ∙ c.if-eq.false)) c.join-first.ensures)
