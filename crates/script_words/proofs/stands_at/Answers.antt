use mathlib.Core.Path.{◌≡◌, sym, ◌∙◌, ap}
use mathlib.Core.List.{List, []}
use Prim.Native.Nat.{ℕ}
use denote.Bor.{Bor}
use lib.Dec.{eqb}
use lib.ListN.{get_or}
use Rattle.std.specs.Cmp.Lexicographic.{pointwise}
use Rattle.std.proofs.lemmas.List.{get_or-map}
use Rattle.script_meaning.specs.Tokens.{same_bytes}
use Rattle.script_meaning.proofs.Matching.{same-is}
use Rattle.script_words.proofs.stands_at.Goals as goal

abbrev none : Bor (List ℕ)
none = record { ref_ptr = (0, 0); now = [] }

pub returns : goal.returns
returns c =
    let known = (get_or c.args.words.now c.args.place none).now in
    let h : c.eq.result ≡ pointwise eqb known c.args.word.now = c.eq.ensures in
    record { is = h ∙ same-is known c.args.word.now ∙ ap (λ y. same_bytes y c.args.word.now) (sym (get_or-map (λ x. x.now) c.args.words.now c.args.place none [] c.requires)) }
