-- A table whose named places were filled with blank is `Blanked`: what lies behind them was never reached.
-- Assumes nothing.
use Rattle.std.proofs.Common.{◌≡◌, ◌∙◌, ◌≤◌, List, ◌++◌, length, take, drop, arith}
use Rattle.std.proofs.Math.ListN.{replicate, get_or-append}
use Rattle.std.proofs.lemmas.List.{get_or-replicate, length-append, length-drop, length-take}
use Rattle.std.proofs.lemmas.Slice.{drop-append-drop}
use Rattle.meaning.specs.Limits.{named_places}
use Rattle.records.specs.declared.Record.{Record}
use Rattle.records.specs.Table.{blank, Blanked}

pub front-blanked : (t f : List Record) → named_places ≤ length t → length f ≡ length (take named_places t) → f ≡ replicate (length (take named_places t)) blank
    → Blanked t (f ++ drop named_places t)
front-blanked t f l n e =
    let front : length f ≡ named_places = omega (arith, length-take named_places t) in
    let many : length (take named_places t) ≡ named_places = omega arith in
    record {
      size = omega (arith, length-append f (drop named_places t), length-drop named_places t);
      zero = λ i h. get_or-append f (drop named_places t) blank i (omega arith) ∙ rw (e, many) (get_or-replicate named_places i blank blank h);
      rest = drop-append-drop named_places t f named_places (omega arith) front;
    }

-- A table that was filled before it was cleared is as it was behind its named places.
pub blanked-over : (t t' t'' : List Record) → length t' ≡ length t → drop named_places t' ≡ drop named_places t → Blanked t' t'' → Blanked t t''
blanked-over t t' t'' l d b = record { size = b.size ∙ l; zero = b.zero; rest = b.rest ∙ d }
