-- What holds when a part has been met. Assumes nothing.
use Prim.Native.Nat.{ℕ, zero, suc, ◌+◌, ◌-◌, ◌≤◌, ◌<◌}
use native.Mathlib.Omega.{arith}
use mathlib.Core.Path.{◌≡◌, refl, sym, ◌∙◌, ap, subst}
use mathlib.Core.Logic.{◌≢◌}
use mathlib.Core.Bool.{Bool, true, false}
use mathlib.Core.List.{List, [], ◌∷◌, ◌++◌, map, append-nil}
use lib.ListN.{length, get_or, length-map, length-append, length-set}
use lib.Seq.{drop-length, drop-append_seam}
use Rattle.meaning.specs.Following.{app}
use Rattle.script_terms.specs.Flat.{Part, applied, has, place, Item, noted, record_of}
use Rattle.script_meaning.specs.Reading.{Seen, with_part}
use Rattle.script_meaning.proofs.Laws.{tag-grown}
use Rattle.script_shelf.proofs.Chains.{last-most}
use Rattle.script_shelf.specs.Columns.{Laid, note_in, file_in}
use Rattle.script_shelf.specs.Keys.{last_with, heads, Chain}
use Rattle.script_shelf.specs.Shelf.{Halves, number_of, halves_of, pair_key, columns, Holding}
use Rattle.script_shelf.specs.declared.Counts.{Counts}
use Rattle.script_shelf.proofs.Keys.{head_at, length-links, length-heads}
use Rattle.script_shelf.proofs.Pushes.{note-laid, file-laid}
use Rattle.script_shelf.proofs.Seeking.{last-is, last_none, chained}
use Rattle.script_parts.specs.Pairs.{left, right, key_of, key_in, fitting, pair_in, Ready, Shelved, Put}
use Rattle.script_parts.specs.Meet.{new_parts, Meeting, Met, Meets}
use Rattle.script_parts.proofs.Pairs.{fitting-is, fitting-of}
use Rattle.script_parts.proofs.Standing.{one_more, place-new, pair-there, there-pair, halves-more, standing-more}

pub key-small : (a b : ℕ) → key_of a b < 509
unfolding key_of
key-small a b = omega arith

pub length-halves : (l : List Part) → length (halves_of l) ≡ length l
unfolding halves_of
length-halves l = length-map l _

key-at : (hs : List Halves) (k : ℕ) → get_or (map pair_key hs) k 0 ≡ key_of (get_or (map (λ h. h.left) hs) k 0) (get_or (map (λ h. h.right) hs) k 0)
unfolding pair_key key_of
key-at [] k = refl
key-at (h ∷ hs) zero = refl
key-at (h ∷ hs) (suc k) = key-at hs k

module _ {s w : List ℕ} {c : Counts} {t : Seen} {fs : List Item} (H : Holding s w c t fs) where
  hs : List Halves
  hs = halves_of t.parts

  pub left-col : (k : ℕ) → k < length t.parts → left w k ≡ get_or (map (λ h. h.left) (halves_of t.parts)) k 0
  left-col k b = H.laid.cell 5 (omega arith) k (omega (arith, length-map (halves_of t.parts) (λ h. h.left), length-halves t.parts))

  pub right-col : (k : ℕ) → k < length t.parts → right w k ≡ get_or (map (λ h. h.right) (halves_of t.parts)) k 0
  right-col k b = H.laid.cell 6 (omega arith) k (omega (arith, length-map (halves_of t.parts) (λ h. h.right), length-halves t.parts))

  pub parts-chain : (a b : ℕ) → Chain (key_in w) (λ k. get_or w (6515 + k) 0) c.parts (key_of a b) (get_or w (7516 + key_of a b) 0)
  unfolding key_in
  parts-chain a b =
      let ks = map pair_key (halves_of t.parts) in
      let e : length ks ≡ length t.parts = length-map (halves_of t.parts) pair_key ∙ length-halves t.parts in
      let n : c.parts ≡ length t.parts = H.counted.parts in
      chained ks (key_of a b) (n ∙ sym e) (λ i d. key-at (halves_of t.parts) i ∙ rw (left-col i (omega arith), right-col i (omega arith)))
      (λ k d. H.laid.cell 7 (omega arith) k (omega (arith, length-links ks)))
      (key-small a b) (H.laid.cell 8 (omega arith) (key_of a b) (omega (arith, length-heads ks, key-small a b)))

same_seen : (t : Seen) (x : Part) → has t.parts x ≡ true → with_part x t ≡ t
same_seen t x e = rw e

abbrev grown : Seen → Part → Seen
grown t x = record { symbols = t.symbols; parts = t.parts ++ x ∷ []; records = suc t.records; differs = t.differs; checks = t.checks }

more-seen : (t : Seen) (x : Part) → has t.parts x ≡ false → with_part x t ≡ grown t x
more-seen t x e = rw e

none-new : (l : List Part) → new_parts l l ≡ []
none-new l = rw (drop-length l)

one-new : (l : List Part) (x : Part) → new_parts l (l ++ x ∷ []) ≡ noted (record_of 1001 (l ++ x ∷ []) x) ∷ []
one-new l x = rw (drop-append_seam l (x ∷ []))

pair-key : (a b : ℕ) → pair_key (record { left = a; right = b }) ≡ key_of a b
unfolding pair_key key_of
pair-key a b = refl

module _ {s w : List ℕ} {c : Counts} {t : Seen} {fs : List Item} {p q : Part} {a b : ℕ} (M : Meeting s w c t fs p q a b) where
  pub ready : Ready w c a b
  ready =
      let H = M.holding in
      let N = H.counted in
      record { long = H.laid.long; parts = omega (arith, N.parts, M.tags); fields = omega (arith, N.fields, N.sum, M.records, M.differs, M.checks); records = omega (arith, N.records, M.records); chain = parts-chain H a b }

  -- It is found.
  found-there : (k : ℕ) → pair_in w a b c.parts ≡ suc k → (has t.parts (applied p q) ≡ true) × (place t.parts (applied p q) ≡ k)
  unfolding pair_in
  found-there k e =
      let H = M.holding in
      let z = fitting-is w a b k (last-is (fitting w a b) c.parts k e) in
      let h : k < length t.parts = omega (arith, last-most (fitting w a b) c.parts, H.counted.parts) in
      pair-there H.stands M.left-known M.right-known k h (sym (left-col H k h) ∙ z.0 ∙ M.left_is) (sym (right-col H k h) ∙ z.1 ∙ M.right_is)

  pub met-old : {j number : ℕ} → j ≡ pair_in w a b c.parts → j ≢ 0 → number ≡ 1000 + j → Met s w w c t fs p q number
  met-old {j} {number} e d u =
      let k : suc (j - 1) ≡ j = omega arith in
      let f = found-there (j - 1) (sym (k ∙ e)) in
      record {
        size = refl;
        holding = subst (λ x. Holding s w c x (fs ++ new_parts t.parts x.parts)) (sym (same_seen t (applied p q) f.0)) (rw (none-new t.parts, append-nil fs) M.holding);
        is = subst (λ (x : Seen). number ≡ number_of x.parts (applied p q)) (sym (same_seen t (applied p q) f.0)) (let z : place t.parts (applied p q) ≡ j - 1 = f.1 in omega arith);
      }

  -- It is not there.
  not_there : 0 ≡ pair_in w a b c.parts → has t.parts (applied p q) ≡ false
  unfolding pair_in
  not_there e = go (has t.parts (applied p q)) refl
    where
      go : (x : Bool) → has t.parts (applied p q) ≡ x → x ≡ false
      go false z = refl
      go true z =
          let H = M.holding in
          let i = there-pair H.stands M.left-known M.right-known z in
          let k = place t.parts (applied p q) in
          absurd (last_none (fitting w a b) c.parts (sym e) k (omega (arith, i.0, H.counted.parts)) (fitting-of w a b k (left-col H k i.0 ∙ i.1 ∙ sym M.left_is) (right-col H k i.0 ∙ i.2 ∙ sym M.right_is)))

  -- It is filed and noted.
  new-laid : (head : ℕ) → head ≡ get_or w (7516 + key_of a b) 0 → Laid (columns s M.holding.marks (halves_of (t.parts ++ applied p q ∷ [])) (fs ++ noted (app a b (1001 + c.parts)) ∷ [])) (note_in (file_in w c.parts a b (key_of a b) head) c.fields 2 a b (1001 + c.parts))
  new-laid head u =
      let H = M.holding in
      let N = H.counted in
      let h : Halves = record { left = a; right = b } in
      let ks = map pair_key (halves_of t.parts) in
      let z : length ks ≡ length t.parts = length-map (halves_of t.parts) pair_key ∙ length-halves t.parts in
      let n : c.parts ≡ length (halves_of t.parts) = N.parts ∙ sym (length-halves t.parts) in
      let m : get_or w (7516 + key_of a b) 0 ≡ get_or (heads ks) (key_of a b) 0 = H.laid.cell 8 (omega arith) (key_of a b) (omega (arith, length-heads ks, key-small a b)) in
      let x : head ≡ last_with ks (pair_key h) c.parts = u ∙ m ∙ head_at ks (key_of a b) (key-small a b) ∙ rw (pair-key a b, z, N.parts) in
      let g : halves_of t.parts ++ h ∷ [] ≡ halves_of (t.parts ++ applied p q ∷ []) = rw (M.left_is, M.right_is) (sym (halves-more H.stands M.left-known M.right-known)) in
      let d₁ : Laid (columns s H.marks (halves_of t.parts ++ h ∷ []) fs) (file_in w c.parts a b (pair_key h) head) = file-laid s H.marks (halves_of t.parts) fs H.laid h head n (omega (arith, N.parts, M.tags)) (rw (pair-key a b) (key-small a b)) x in
      let d₂ = note-laid s H.marks (halves_of t.parts ++ h ∷ []) fs d₁ (noted (app a b (1001 + c.parts))) N.fields (omega (arith, N.fields, N.sum, M.records, M.differs, M.checks)) in
      subst (λ l. Laid (columns s H.marks l (fs ++ noted (app a b (1001 + c.parts)) ∷ [])) (note_in (file_in w c.parts a b (key_of a b) head) c.fields 2 a b (1001 + c.parts))) g
      (subst (λ k. Laid (columns s H.marks (halves_of t.parts ++ h ∷ []) (fs ++ noted (app a b (1001 + c.parts)) ∷ [])) (note_in (file_in w c.parts a b k head) c.fields 2 a b (1001 + c.parts))) (pair-key a b) d₂)

  put-size : (x y key head : ℕ) → length (note_in (file_in w x a b key head) y 2 a b (1001 + x)) ≡ length w
  unfolding note_in file_in
  put-size x y key head = simp length-set

  pub met-new : {w' : List ℕ} {c' : Counts} {head key number : ℕ} → 0 ≡ pair_in w a b c.parts → Put w w' c c' a b key head → key ≡ key_of a b → head ≡ get_or w (7516 + key) 0 → number ≡ 1001 + c.parts → Met s w w' c' t fs p q number
  met-new {w'} {c'} {head} {key} {number} e P k u v =
      let H = M.holding in
      let N = H.counted in
      let x = applied p q in
      let l = t.parts in
      let f = not_there e in
      let o : place (l ++ x ∷ []) x ≡ length l = place-new l x f in
      let i : noted (record_of 1001 (l ++ x ∷ []) x) ≡ noted (app a b (1001 + c.parts)) = rw (tag-grown (one_more l x) M.left-known, tag-grown (one_more l x) M.right-known, o, M.left_is, M.right_is, N.parts) in
      let j : new_parts l (l ++ x ∷ []) ≡ noted (app a b (1001 + c.parts)) ∷ [] = one-new l x ∙ ap (λ y. y ∷ []) i in
      let y : Laid (columns s H.marks (halves_of (l ++ x ∷ [])) (fs ++ noted (app a b (1001 + c.parts)) ∷ [])) w' = rw (P.table, k) (new-laid head (u ∙ ap (λ z. get_or w (7516 + z) 0) k)) in
      let h : Holding s w' c' (grown t x) (fs ++ noted (app a b (1001 + c.parts)) ∷ []) = record {
        marks = H.marks;
        laid = y;
        named = H.named;
        inside = H.inside;
        once = H.once;
        stands = standing-more H.stands M.left-known M.right-known f;
        counted = record {
          symbols = P.symbols ∙ N.symbols;
          parts = omega (arith, P.parts, N.parts, length-append l (x ∷ []));
          records = omega (arith, P.records, N.records);
          differs = P.differs ∙ N.differs;
          checks = P.checks ∙ N.checks;
          fields = omega (arith, P.fields, N.fields, length-append fs (noted (app a b (1001 + c.parts)) ∷ []));
          sum = omega (arith, N.sum, length-append fs (noted (app a b (1001 + c.parts)) ∷ []));
        };
      } in
      record {
        size = ap length P.table ∙ put-size c.parts c.fields key head;
        holding = subst (λ z. Holding s w' c' z (fs ++ new_parts l z.parts)) (sym (more-seen t x f)) (rw j h);
        is = subst (λ (z : Seen). number ≡ number_of z.parts x) (sym (more-seen t x f)) (omega (arith, N.parts));
      }

-- What the code has.
pub shelved : {w : List ℕ} {c : Counts} {a b n key x head : ℕ} → Ready w c a b → n ≡ c.parts → key ≡ key_of a b → x ≡ get_or w (7516 + key) 0 → head ≡ x → Shelved w n a b head
shelved {w} {c} {a} {b} {n} {key} {x} {head} R e k f g =
    let m : n ≤ 1001 = omega (arith, R.parts) in
    record { long = R.long; few = m; chain = rw (e, g, f, k) R.chain }

pub meets-old : {w : List ℕ} {c : Counts} {a b n number : ℕ} (k : ℕ) → n ≡ c.parts → pair_in w a b n ≡ k + 1 → number ≡ 1001 + k → Meets w w c c a b number
meets-old {w} {c} {a} {b} {n} {number} k e f u = record { met = λ s t fs p q M. met-old M (sym f ∙ ap (pair_in w a b) e) (omega arith) (omega arith) }

pub meets-new : {w w' : List ℕ} {c c' : Counts} {a b n key head number : ℕ} → n ≡ c.parts → pair_in w a b n ≡ 0 → Put w w' c c' a b key head → key ≡ key_of a b → head ≡ get_or w (7516 + key) 0 → number ≡ 1001 + c.parts → Meets w w' c c' a b number
meets-new {w} {w'} {c} {c'} {a} {b} {n} e f P k h u = record { met = λ s t fs p q M. met-new M (sym f ∙ ap (pair_in w a b) e) P k h u }
