-- What holds when a field has been noted, and at the beginning. Assumes nothing.
use Prim.Native.Nat.{ℕ, ◌+◌, ◌≤◌, ◌<◌}
use native.Mathlib.Omega.{arith}
use native.Mathlib.Numerals.{add-one}
use mathlib.Core.Path.{◌≡◌, refl, sym, ◌∙◌, ap, subst}
use mathlib.Core.List.{List, [], ◌∷◌, ◌++◌}
use lib.ListN.{length, set, length-append, length-set}
use Rattle.meaning.specs.Following.{eq}
use Rattle.script_terms.specs.Flat.{Item, noted, differing, checking}
use Rattle.script_meaning.specs.Reading.{Seen, fits, nothing, with_record, with_differ, with_check}
use Rattle.script_shelf.specs.Columns.{Laid, note_in, up_to}
use Rattle.script_shelf.specs.Keys.{last_with, links, heads}
use Rattle.script_shelf.specs.Shelf.{halves_of, kind_of, first_of, second_of, third_of, columns, Counted, Holding}
use Rattle.script_shelf.specs.declared.Counts.{Counts}
use Rattle.script_shelf.proofs.Columns.{empty-laid, length_up, up_more}
use Rattle.script_shelf.proofs.Pushes.{note-laid, grow}
use Rattle.script_fields.specs.Fields.{Begun, Noted, Notes, fitting}

note-size : (w : List ℕ) (n k a b c : ℕ) → length (note_in w n k a b c) ≡ length w
unfolding note_in
note-size w n k a b c = simp length-set

-- A field more; what has been seen keeps its symbols and parts.
pub note-held : {s w w' : List ℕ} {c c' : Counts} {t : Seen} {fs : List Item} (x : Item) (t' : Seen) → Holding s w c t fs → w' ≡ note_in w c.fields (kind_of x) (first_of x) (second_of x) (third_of x) → c.fields ≤ 5500
    → t'.symbols ≡ t.symbols → t'.parts ≡ t.parts → Counted c' t' (fs ++ x ∷ []) → Noted s w w' c' t' (fs ++ x ∷ [])
note-held {s} {w} {w'} {c} {c'} {t} {fs} x t' H e b y z N = record {
  size = ap length e ∙ note-size w c.fields (kind_of x) (first_of x) (second_of x) (third_of x);
  holding = record {
    marks = H.marks;
    laid = rw (e, z) (note-laid s H.marks (halves_of t.parts) fs H.laid x H.counted.fields (omega arith));
    named = y ∙ H.named;
    inside = H.inside;
    once = rw y H.once;
    stands = rw z H.stands;
    counted = N;
  };
}

-- While the heads are cleared.
pub zeros : ℕ → ℕ
zeros i = 0

abbrev pub cleared : ℕ → List (List ℕ)
cleared i = [] ∷ [] ∷ [] ∷ [] ∷ up_to zeros i ∷ [] ∷ [] ∷ [] ∷ up_to zeros i ∷ [] ∷ [] ∷ [] ∷ [] ∷ []

pub record Clearing (w₀ w : List ℕ) (i : ℕ) : Type 0 where
  pub size : length w ≡ length w₀
  pub few : i ≤ 509
  pub laid : Laid (cleared i) w

none-up : up_to zeros 0 ≡ []
unfolding up_to
none-up = refl

pub clear-start : (w : List ℕ) → 32768 ≤ length w → Clearing w w 0
clear-start w h = record { size = refl; few = omega arith; laid = rw none-up (empty-laid w h) }

pub clear-on : {w₀ w w₁ w₂ : List ℕ} {i : ℕ} → Clearing w₀ w i → i < 509 → w₁ ≡ set w (4004 + i) 0 → w₂ ≡ set w₁ (7516 + i) 0 → Clearing w₀ w₂ (i + 1)
unfolding zeros
clear-on {w₀} {w} {w₁} {w₂} {i} C h e f =
    let m : up_to zeros (i + 1) ≡ up_to zeros i ++ 0 ∷ [] = ap (up_to zeros) (add-one i) ∙ up_more zeros i in
    let d₁ = grow {l' = up_to zeros (i + 1)} 4 i 0 C.laid (omega arith) (sym (length_up zeros i)) (omega arith) m in
    let d₂ = grow {l' = up_to zeros (i + 1)} 8 i 0 d₁ (omega arith) (sym (length_up zeros i)) (omega arith) m in
    record { size = rw (f, e) (length-set (set w (4004 + i) 0) (7516 + i) 0 ∙ length-set w (4004 + i) 0 ∙ C.size); few = omega arith; laid = rw (f, e) d₂ }

no-heads : up_to zeros 509 ≡ heads []
unfolding zeros heads last_with
no-heads = refl

no-links : links [] ≡ []
unfolding links up_to
no-links = refl

no-halves : halves_of [] ≡ []
unfolding halves_of
no-halves = refl

no-things : (s w : List ℕ) → Laid (cleared 509) w → Laid (columns s [] (halves_of []) []) w
no-things s w D = rw (no-halves, no-links, ← no-heads) D

pub begun : {w w' : List ℕ} {c : Counts} {i : ℕ} → Clearing w w' i → 509 ≤ i → Counted c nothing [] → Begun w w' c
begun {w} {w'} {c} {i} C h N =
    let e : i ≡ 509 = omega (arith, C.few) in
    record {
      size = C.size;
      holding = λ s. record {
        marks = [];
        laid = all s (subst (λ i. Laid (cleared i) w') e C.laid);
        named = refl;
        inside = λ i b. absurd (omega arith);
        once = λ i b. absurd (omega arith);
        stands = λ i b. absurd (omega arith);
        counted = N;
      };
    }
  where
    all : (s : List ℕ) → Laid (cleared 509) w' → Laid (columns s [] (halves_of []) []) w'
    all s D = no-things s w' D

-- The limits.
pub fitting-is : {s w : List ℕ} {c : Counts} {t : Seen} {fs : List Item} → Holding s w c t fs → fitting c ≡ fits t
unfolding fitting
fitting-is H = let N = H.counted in rw (N.symbols, N.parts, N.records, N.differs, N.checks)

pub notes-equal : {w w' : List ℕ} {c c' : Counts} {a b : ℕ} → w' ≡ note_in w c.fields 1 a b 0 → c.fields ≤ 5500 → c'.symbols ≡ c.symbols → c'.parts ≡ c.parts → c'.records ≡ c.records + 1 → c'.differs ≡ c.differs → c'.checks ≡ c.checks → c'.fields ≡ c.fields + 1
    → Notes w w' c c' (noted (eq a b)) with_record
notes-equal {w} {w'} {c} {c'} {a} {b} e h e₁ e₂ e₃ e₄ e₅ e₆ = record {
  noted = λ s t fs H. let N = H.counted in note-held (noted (eq a b)) (with_record t) H e h refl refl (record {
    symbols = e₁ ∙ N.symbols;
    parts = e₂ ∙ N.parts;
    records = omega (arith, N.records);
    differs = omega (arith, N.differs);
    checks = omega (arith, N.checks);
    fields = omega (arith, N.fields, length-append fs ((noted (eq a b)) ∷ []));
    sum = omega (arith, N.sum, length-append fs ((noted (eq a b)) ∷ []));
  });
}

pub notes-differ : {w w' : List ℕ} {c c' : Counts} {a b : ℕ} → w' ≡ note_in w c.fields 5 a b 0 → c.fields ≤ 5500 → c'.symbols ≡ c.symbols → c'.parts ≡ c.parts → c'.records ≡ c.records → c'.differs ≡ c.differs + 1 → c'.checks ≡ c.checks → c'.fields ≡ c.fields + 1
    → Notes w w' c c' (differing a b) with_differ
notes-differ {w} {w'} {c} {c'} {a} {b} e h e₁ e₂ e₃ e₄ e₅ e₆ = record {
  noted = λ s t fs H. let N = H.counted in note-held (differing a b) (with_differ t) H e h refl refl (record {
    symbols = e₁ ∙ N.symbols;
    parts = e₂ ∙ N.parts;
    records = omega (arith, N.records);
    differs = omega (arith, N.differs);
    checks = omega (arith, N.checks);
    fields = omega (arith, N.fields, length-append fs ((differing a b) ∷ []));
    sum = omega (arith, N.sum, length-append fs ((differing a b) ∷ []));
  });
}

pub notes-check : {w w' : List ℕ} {c c' : Counts} → w' ≡ note_in w c.fields 6 0 0 0 → c.fields ≤ 5500 → c'.symbols ≡ c.symbols → c'.parts ≡ c.parts → c'.records ≡ c.records → c'.differs ≡ c.differs → c'.checks ≡ c.checks + 1 → c'.fields ≡ c.fields + 1
    → Notes w w' c c' (checking) with_check
notes-check {w} {w'} {c} {c'} e h e₁ e₂ e₃ e₄ e₅ e₆ = record {
  noted = λ s t fs H. let N = H.counted in note-held (checking) (with_check t) H e h refl refl (record {
    symbols = e₁ ∙ N.symbols;
    parts = e₂ ∙ N.parts;
    records = omega (arith, N.records);
    differs = omega (arith, N.differs);
    checks = omega (arith, N.checks);
    fields = omega (arith, N.fields, length-append fs ((checking) ∷ []));
    sum = omega (arith, N.sum, length-append fs ((checking) ∷ []));
  });
}
