-- Symbols that the table holds. Assumes nothing.
use Prim.Native.Nat.{ℕ, zero, suc, ◌+◌, ◌-◌, ◌≤◌, ◌<◌}
use native.Mathlib.Omega.{arith}
use mathlib.Core.Path.{◌≡◌, refl, sym, ◌∙◌, ap, subst}
use mathlib.Core.Logic.{◌≢◌}
use mathlib.Core.Bool.{true, false}
use mathlib.Core.List.{List, [], ◌∷◌, ◌++◌, map, map-append}
use lib.Dec.{T}
use lib.ListN.{length, get_or, length-map, length-append, length-set}
use lib.Seq.{slice}
use Rattle.script_terms.specs.Flat.{Item}
use Rattle.script_meaning.specs.Tokens.{same_bytes}
use Rattle.script_meaning.specs.Reading.{Symbol, Seen, is_there}
use Rattle.script_shelf.proofs.Chains.{last-most}
use Rattle.script_shelf.specs.Columns.{Laid, mark_in}
use Rattle.script_shelf.specs.Keys.{last_with, heads, Chain}
use Rattle.script_shelf.specs.Shelf.{Mark, symbol_in, blank, sum, name_key, halves_of, columns, Holding}
use Rattle.script_shelf.specs.declared.Counts.{Counts}
use Rattle.script_shelf.proofs.Keys.{head_at, length-links, length-heads}
use Rattle.script_shelf.proofs.Pushes.{mark-laid}
use Rattle.script_shelf.proofs.Seeking.{last-is, last_none, chained}
use Rattle.script_names.specs.Names.{key_in, fitting, name_in, Inside, Shelved, Ready, Room, Said, Looks, Marked, Declared, Declares}
use Rattle.script_names.proofs.Names.{fitting-is}
use Rattle.script_names.proofs.Symbols.{once_more, said-there, said-not}

pub sum-small : (l : List ℕ) → sum l < 509
sum-small [] = omega arith
sum-small (b ∷ l) = omega arith

no-mark : Mark
no-mark = record { from = 0; to = 0; takes = 0 }

key-at : (s : List ℕ) (ms : List Mark) (k : ℕ) → get_or (map (name_key s) ms) k 0 ≡ sum (slice (get_or (map (λ m. m.from) ms) k 0) (get_or (map (λ m. m.to) ms) k 0) s)
unfolding name_key
key-at s [] k = refl
key-at s (m ∷ ms) zero = refl
key-at s (m ∷ ms) (suc k) = key-at s ms k

symbol-at : (s : List ℕ) (ms : List Mark) (k : ℕ) → get_or (map (symbol_in s) ms) k blank ≡ record { name = slice (get_or (map (λ m. m.from) ms) k 0) (get_or (map (λ m. m.to) ms) k 0) s; takes = get_or (map (λ m. m.takes) ms) k 0 }
symbol-at s [] k = refl
symbol-at s (m ∷ ms) zero = refl
symbol-at s (m ∷ ms) (suc k) = symbol-at s ms k

key-mark : (s : List ℕ) (from to takes : ℕ) → sum (slice from to s) ≡ name_key s (record { from = from; to = to; takes = takes })
unfolding name_key
key-mark s from to takes = refl

mark-size : (w : List ℕ) (n from to takes key head : ℕ) → length (mark_in w n from to takes key head) ≡ length w
unfolding mark_in
mark-size w n from to takes key head = simp length-set

module _ {s w : List ℕ} {c : Counts} {t : Seen} {fs : List Item} (H : Holding s w c t fs) where
  long-marks : length H.marks ≡ length t.symbols
  long-marks = sym (ap length H.named ∙ length-map H.marks (symbol_in s))

  from-col : (k : ℕ) → k < length t.symbols → get_or w (0 + k) 0 ≡ get_or (map (λ m. m.from) H.marks) k 0
  from-col k b = H.laid.cell 0 (omega arith) k (omega (arith, length-map H.marks (λ m. m.from), long-marks))

  to-col : (k : ℕ) → k < length t.symbols → get_or w (1001 + k) 0 ≡ get_or (map (λ m. m.to) H.marks) k 0
  to-col k b = H.laid.cell 1 (omega arith) k (omega (arith, length-map H.marks (λ m. m.to), long-marks))

  takes-col : (k : ℕ) → k < length t.symbols → get_or w (2002 + k) 0 ≡ get_or (map (λ m. m.takes) H.marks) k 0
  takes-col k b = H.laid.cell 2 (omega arith) k (omega (arith, length-map H.marks (λ m. m.takes), long-marks))

  pub symbol-is : (k : ℕ) → k < length t.symbols → get_or t.symbols k blank ≡ record { name = slice (get_or w (0 + k) 0) (get_or w (1001 + k) 0) s; takes = get_or w (2002 + k) 0 }
  symbol-is k b = ap (λ l. get_or l k blank) H.named ∙ symbol-at s H.marks k ∙ rw (from-col k b, to-col k b, takes-col k b)

  pub inside : Inside s w c.symbols
  inside k b = let m : k < length t.symbols = omega (arith, H.counted.symbols) in rw (from-col k m, to-col k m) (H.inside k (omega (arith, long-marks)))

  head-is : (x : ℕ) → x < 509 → get_or w (4004 + x) 0 ≡ get_or (heads (map (name_key s) H.marks)) x 0
  head-is x b = H.laid.cell 4 (omega arith) x (omega (arith, length-heads (map (name_key s) H.marks)))

  pub names-chain : (x : ℕ) → x < 509 → Chain (key_in s w) (λ k. get_or w (3003 + k) 0) c.symbols x (get_or w (4004 + x) 0)
  unfolding key_in
  names-chain x b =
      let ks = map (name_key s) H.marks in
      let e : length ks ≡ length t.symbols = length-map H.marks (name_key s) ∙ long-marks in
      let n : c.symbols ≡ length t.symbols = H.counted.symbols in
      chained ks x (n ∙ sym e) (λ i d. key-at s H.marks i ∙ rw (from-col i (omega arith), to-col i (omega arith)))
      (λ k d. H.laid.cell 3 (omega arith) k (omega (arith, length-links ks)))
      b (head-is x b)

  few : c.symbols ≤ 1001
  few = omega (arith, H.laid.room 0 (omega arith), length-map H.marks (λ m. m.from), long-marks, H.counted.symbols)

  pub ready : {from to : ℕ} → from ≤ to → to ≤ length s → Ready s w c from to
  ready {from} {to} u v = record { long = H.laid.long; few = few; order = u; within = v; inside = inside; chain = names-chain (sum (slice from to s)) (sum-small (slice from to s)) }

  -- A name is found, or is not there.
  pub look-there : (from to : ℕ) {j number takes : ℕ} → j ≡ name_in s w from to c.symbols → j ≢ 0 → number ≡ j - 1 → takes ≡ get_or w (2002 + (j - 1)) 0 → Said t.symbols (slice from to s) true number takes
  unfolding name_in
  look-there from to {j} {number} {takes} e d u v =
      let z : suc (j - 1) ≡ j = omega arith in
      let h : j - 1 < length t.symbols = omega (arith, last-most (fitting s w from to) c.symbols, H.counted.symbols) in
      let f = fitting-is s w from to (j - 1) (last-is (fitting s w from to) c.symbols (j - 1) (sym (z ∙ e))) in
      let q = symbol-is (j - 1) h in
      let r = said-there (j - 1) H.once h (ap (λ (y : Symbol). y.name) q ∙ f) in
      rw (u, v) (subst (λ n. Said t.symbols (slice from to s) true (j - 1) n) (ap (λ (y : Symbol). y.takes) q) r)

  pub look-not : (from to number takes : ℕ) → 0 ≡ name_in s w from to c.symbols → Said t.symbols (slice from to s) false number takes
  unfolding name_in fitting
  look-not from to number takes e = said-not t.symbols (slice from to s) number takes (λ k h b. last_none (fitting s w from to) c.symbols (sym e) k (omega (arith, H.counted.symbols)) (subst (λ (y : Symbol). T (same_bytes y.name (slice from to s))) (symbol-is k h) b))

  -- One symbol more.
  pub marked : {w' : List ℕ} {c' : Counts} {from to takes key head : ℕ} → from ≤ to → to ≤ length s → c.symbols ≤ 1000 → is_there t.symbols (slice from to s) ≡ false → Marked w w' c c' from to takes key head
      → key ≡ sum (slice from to s) → head ≡ get_or w (4004 + key) 0 → Declared s w w' c' t fs from to takes
  marked {w'} {c'} {from} {to} {takes} {key} {head} u v few f P k h =
      let m : Mark = record { from = from; to = to; takes = takes } in
      let y : Symbol = record { name = slice from to s; takes = takes } in
      let ms = H.marks in
      let N = H.counted in
      let ks = map (name_key s) ms in
      let z : key ≡ name_key s m = k ∙ key-of-mark from to takes in
      let b : name_key s m < 509 = subst (λ x. x < 509) (key-of-mark from to takes) (sum-small (slice from to s)) in
      let n : c.symbols ≡ length ms = N.symbols ∙ sym long-marks in
      let q : head ≡ last_with ks (name_key s m) c.symbols = h ∙ ap (λ x. get_or w (4004 + x) 0) z ∙ head-is (name_key s m) b ∙ head_at ks (name_key s m) b ∙ ap (last_with ks (name_key s m)) (length-map ms (name_key s) ∙ sym n) in
      let d : Laid (columns s (ms ++ m ∷ []) (halves_of t.parts) fs) w' = rw (P.table, z) (mark-laid s ms (halves_of t.parts) fs H.laid m head n (omega arith) b q) in
      record {
        size = ap length P.table ∙ mark-size w c.symbols from to takes key head;
        holding = record {
          marks = ms ++ m ∷ [];
          laid = d;
          named = ap (λ l. l ++ y ∷ []) H.named ∙ sym (map-append (symbol_in s) ms (m ∷ []));
          inside = more-inside ms m H.inside u v;
          once = once_more t.symbols y H.once f;
          stands = H.stands;
          counted = record { symbols = omega (arith, P.symbols, N.symbols, length-append t.symbols (y ∷ [])); parts = P.parts ∙ N.parts; records = P.records ∙ N.records; differs = P.differs ∙ N.differs; checks = P.checks ∙ N.checks; fields = P.fields ∙ N.fields; sum = N.sum };
        };
      }
    where
      key-of-mark : (from to takes : ℕ) → sum (slice from to s) ≡ name_key s (record { from = from; to = to; takes = takes })
      key-of-mark = key-mark s

      more-inside : (ms : List Mark) (m : Mark) → ((i : ℕ) → i < length ms → (get_or (map (λ m. m.from) ms) i 0 ≤ get_or (map (λ m. m.to) ms) i 0) × (get_or (map (λ m. m.to) ms) i 0 ≤ length s)) → m.from ≤ m.to → m.to ≤ length s
          → (i : ℕ) → i < length (ms ++ m ∷ []) → (get_or (map (λ m. m.from) (ms ++ m ∷ [])) i 0 ≤ get_or (map (λ m. m.to) (ms ++ m ∷ [])) i 0) × (get_or (map (λ m. m.to) (ms ++ m ∷ [])) i 0 ≤ length s)
      more-inside [] m I u v zero h = (u, v)
      more-inside [] m I u v (suc i) h = absurd (omega arith)
      more-inside (x ∷ ms) m I u v zero h = I 0 (omega arith)
      more-inside (x ∷ ms) m I u v (suc i) h = more-inside ms m (λ j b. I (suc j) (omega arith)) u v i (omega arith)

-- What the code has.
pub declares : {s w w' : List ℕ} {c c' : Counts} {from to takes key head : ℕ} → Room s w c from to → Marked w w' c c' from to takes key head → key ≡ sum (slice from to s) → head ≡ get_or w (4004 + key) 0 → Declares s w w' c c' from to takes
declares R P k h = record { declared = λ t fs H f. marked H R.order R.within R.few f P k h }

pub shelved : {s w : List ℕ} {c : Counts} {from to n key x head : ℕ} → Ready s w c from to → n ≡ c.symbols → key ≡ sum (slice from to s) → x ≡ get_or w (4004 + key) 0 → head ≡ x → Shelved s w n from to head
shelved {s} {w} {c} {from} {to} {n} {key} {x} {head} R e k f g =
    record { long = R.long; few = rw e R.few; order = R.order; within = R.within; inside = rw e R.inside; chain = rw (e, g, f, k) R.chain }

pub looks-not : {s w : List ℕ} {c : Counts} {from to n : ℕ} → n ≡ c.symbols → name_in s w from to n ≡ 0 → (number takes : ℕ) → Looks s w c from to false number takes
looks-not {s} {w} {c} {from} {to} e f number takes = record { looked = λ t fs H. look-not H from to number takes (sym f ∙ ap (name_in s w from to) e) }

pub looks-there : {s w : List ℕ} {c : Counts} {from to n k number takes : ℕ} → n ≡ c.symbols → name_in s w from to n ≡ k + 1 → number ≡ k → takes ≡ get_or w (2002 + k) 0 → Looks s w c from to true number takes
looks-there {s} {w} {c} {from} {to} {k = k} e f u v =
    let z : k + 1 - 1 ≡ k = omega arith in
    record { looked = λ t fs H. look-there H from to (sym f ∙ ap (name_in s w from to) e) (omega arith) (u ∙ sym z) (v ∙ ap (λ i. get_or w (2002 + i) 0) (sym z)) }
