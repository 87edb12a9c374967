-- `find` meets its contract. The search goes along the chain of the key's bucket, and finds what the table has for the key.
-- Assumes nothing.
use Prim.Native.Nat.{ℕ, ◌%◌}
use mathlib.Core.Path.{◌≡◌, ap, ◌∙◌}
use mathlib.Core.List.{List}
use Rattle.table.specs.Map.{next_of, head_of}
use Rattle.table.specs.Places.{head_count}
use Rattle.table_labels.specs.Chain.{seek_to, hits, look}
use Rattle.table_labels.specs.Parts.{key_in}
use Rattle.slow_chain.specs.Places.{key_of, link_in}
use Rattle.slow_chain.proofs.find.Goals as goal

found-link : (w : List ℕ) (i x : ℕ) {from p : ℕ} → from ≡ head_of w (x % head_count) → x ≡ key_of w i → p ≡ seek_to (next_of w) (hits (key_of w) x) from → p ≡ link_in w i
unfolding look
found-link w i x ef ex ep = ep ∙ rw (ef, ex)

pub returns : goal.returns
returns c =
    let key-is : c.key-x.result ≡ key_of c.args.work.now c.args.i = c.key-x.ensures ∙ ap (key_in c.args.work.now) c.number-r.ensures in
    (ap (λ (x : ℕ). x % head_count) key-is, found-link c.args.work.now c.args.i c.key-x.result c.head-from.ensures key-is c.seek-place.ensures)
