-- Bare names and closing parentheses, by what the code has. Assumes nothing.
use Prim.Native.Nat.{ℕ, zero, suc, ◌-◌, ◌≤◌, ◌<◌}
use native.Mathlib.Omega.{arith}
use native.Mathlib.Decide.{ℕ_discrete}
use mathlib.Core.Path.{◌≡◌, refl, sym, ◌∙◌, ap}
use mathlib.Core.Logic.{◌≢◌}
use mathlib.Core.Bool.{Bool, true, false, not}
use mathlib.Core.List.{List}
use lib.Dec.{eqb, leb}
use lib.ListN.{length}
use lib.Seq.{slice}
use Rattle.script_terms.proofs.Tests.{eqb_no, leb_no, leb_yes}
use Rattle.script_terms.specs.Terms.{constant, count}
use Rattle.script_terms.specs.Flat.{Item}
use Rattle.script_meaning.specs.Tokens.{lex, next, text_of}
use Rattle.script_meaning.specs.Reading.{Got, fault, Found, Symbol, Seen, is_there, find, takes_of, term_at}
use Rattle.script_terms.proofs.Known.{leaf}
use Rattle.script_words.specs.Words.{Says, Read}
use Rattle.script_shelf.specs.declared.Counts.{Counts}
use Rattle.script_names.specs.Names.{Ready, Said, Looks}
use Rattle.script_names.proofs.Held.{ready}
use Rattle.script_names.proofs.Symbols.{there}
use Rattle.script_fields.specs.Fields.{fitting}
use Rattle.script_fields.proofs.Fields.{fitting-is}
use Rattle.script_join.specs.Promises.{Start, refused, found, Terms, Going}
use Rattle.script_join.proofs.Laws.{surplus-open, surplus-own, surplus-other, within-tags}
use Rattle.script_join.proofs.Cycle.{wrote_none, bare-outside, bare-undeclared, bare-takes, bare-deep, bare-found, closed_none, closed-over, closed-good, surplus}
use Rattle.script_term_read.specs.Asks.{TermAsk, ClosesBy}

module _ {s w : List ℕ} {c : Counts} {at kind from to : ℕ} (A : TermAsk s w c at kind from to) where
  kind-is : Says s (lex s at).token kind from to
  kind-is = A.lexed.says

  pub bare-ready : kind ≡ 6 → Ready s w c from to
  bare-ready e = ready A.start.holding (let h = kind-is.some (λ z. omega arith) in omega arith) A.lexed.inside

  -- A refusal at the token.
  pub bare-refused : {d x y z : ℕ} {c' : Counts} (m : ℕ) → (14 ≤ m) × (m ≤ 16) → ((t : Seen) (fs : List Item) → Start s w c t fs → (k : ℕ) → term_at (suc k) s t d false (lex s at) ≡ fault m (lex s at).from)
      → Terms s w w c c' d (lex s at) m from x y z
  bare-refused {d} m b h = record { reads = λ t fs S. rw A.lexed.from_is (refused b refl (λ k l. go t (h t fs S) k l)) }
    where
      go : (t : Seen) → ((k : ℕ) → term_at (suc k) s t d false (lex s at) ≡ fault m (lex s at).from) → (k : ℕ) → length s - next (lex s at) < k → term_at k s t d false (lex s at) ≡ fault m (lex s at).from
      go t g zero l = absurd (omega arith)
      go t g (suc k) l = g k

  module _ (o : kind ≢ 3) (d : ℕ) where
    pub bare-14 : {x y z : ℕ} {c' : Counts} → kind ≢ 6 → Terms s w w c c' d (lex s at) 14 from x y z
    bare-14 q = bare-refused 14 (omega arith, omega arith) (λ t fs S k. bare-outside s t d (lex s at) k (kind-is.opens ∙ eqb_no o) (kind-is.own ∙ eqb_no q))

    module _ (q : kind ≡ 6) where
      opens_not : (eqb kind 3) ≡ false
      opens_not = eqb_no o

      own_is : eqb kind 6 ≡ true
      own_is = rw q

      there-as : {h : Bool} {m v : ℕ} {l : List Symbol} → Said l (slice from to s) h m v → is_there l (text_of (lex s at).token) ≡ h
      there-as {l = l} S = ap (is_there l) (kind-is.text (omega arith)) ∙ sym S.there-is

      takes-as : {h : Bool} {m v : ℕ} {l : List Symbol} → Said l (slice from to s) h m v → h ≡ true → takes_of l (text_of (lex s at).token) ≡ v
      takes-as {l = l} S e = ap (takes_of l) (kind-is.text (omega arith)) ∙ sym (S.takes-is e)

      pub bare-15 : {x y z m v : ℕ} {c' : Counts} {h : Bool} → Looks s w c from to h m v → h ≡ false → Terms s w w c c' d (lex s at) 15 from x y z
      bare-15 K f = bare-refused 15 (omega arith, omega arith) (λ t fs S k. bare-undeclared s t d (lex s at) k (kind-is.opens ∙ opens_not) (kind-is.own ∙ own_is) (there-as (K.looked t fs S.holding) ∙ f))

      pub bare-some : {x y z m v : ℕ} {c' : Counts} {h : Bool} → Looks s w c from to h m v → h ≡ true → v ≢ 0 → Terms s w w c c' d (lex s at) 15 from x y z
      bare-some {v = v} K f g = bare-refused 15 (omega arith, omega arith) (λ t fs S k. let r = K.looked t fs S.holding in bare-takes s t d (lex s at) k (kind-is.opens ∙ opens_not) (kind-is.own ∙ own_is) (there-as r ∙ f) (ap (λ n. eqb n 0) (takes-as r f) ∙ eqb_no g))

      pub bare-16 : {x y z m v : ℕ} {c' : Counts} {h : Bool} → Looks s w c from to h m v → h ≡ true → v ≡ 0 → 32 < d → Terms s w w c c' d (lex s at) 16 from x y z
      bare-16 {v = v} K f g b = bare-refused 16 (omega arith, omega arith) (λ t fs S k. let r = K.looked t fs S.holding in bare-deep s t d (lex s at) k (kind-is.opens ∙ opens_not) (kind-is.own ∙ own_is) (there-as r ∙ f) (ap (λ n. eqb n 0) (takes-as r f ∙ g)) (leb_no d 32 b))

      pub bare-good : {m v : ℕ} {h : Bool} → Looks s w c from to h m v → h ≡ true → v ≡ 0 → d ≤ 32 → Terms s w w c c d (lex s at) 0 0 m from to
      bare-good {m} {v} K f g b = record {
        reads = λ t fs S.
            let r = K.looked t fs S.holding in
            let i : is_there t.symbols (text_of (lex s at).token) ≡ true = there-as r ∙ f in
            let number : m ≡ find t.symbols (text_of (lex s at).token) = r.number_is f ∙ rw (kind-is.text (omega arith)) in
            let few : find t.symbols (text_of (lex s at).token) < 1001 = omega (arith, (there t.symbols (text_of (lex s at).token) i).below, within-tags S) in
            rw (A.lexed.from_is, A.lexed.behind) (found (constant (find t.symbols (text_of (lex s at).token))) t fs refl (go t (λ k. bare-found s t d (lex s at) k (kind-is.opens ∙ opens_not) (kind-is.own ∙ own_is) i (ap (λ n. eqb n 0) (takes-as r f ∙ g)) (leb_yes d 32 b))) S (wrote_none t fs) number (leaf few) (omega (arith, A.lexed.inside, A.lexed.behind)) (omega arith));
      }
        where
          go : (t : Seen) {a : Got Found} → ((k : ℕ) → term_at (suc k) s t d false (lex s at) ≡ a) → (k : ℕ) → length s - next (lex s at) < k → term_at k s t d false (lex s at) ≡ a
          go t g zero l = absurd (omega arith)
          go t g (suc k) l = g k

-- The closing parenthesis, or what stands in its place.
module _ {s : List ℕ} {at kind from to : ℕ} (L : Read s at kind from to) where
  closes-is : kind ≡ 4 → eqb kind 4 ≡ true
  closes-is e = rw e

  pub close-14 : {c c' : Counts} {number have x y z : ℕ} → kind ≡ 4 → have ≡ 0 → ClosesBy s c c' number have at 14 from x y z
  close-14 k h = record { closes = λ w w' t fs d f wants fr G b. rw L.from_is (closed_none G (L.says.closes ∙ closes-is k) h) }

  pub close-16 : {c c' : Counts} {number have x y z : ℕ} {r : Bool} → kind ≡ 4 → have ≢ 0 → r ≡ fitting c → r ≡ false → ClosesBy s c c' number have at 16 from x y z
  close-16 k h g q = record { closes = λ w w' t fs d f wants fr G b. rw L.from_is (closed-over G (L.says.closes ∙ closes-is k) h b (sym (fitting-is G.holding) ∙ sym g ∙ q)) }

  pub close-0 : {c : Counts} {number have : ℕ} {r : Bool} → kind ≡ 4 → have ≢ 0 → r ≡ fitting c → r ≡ true → ClosesBy s c c number have at 0 0 number from to
  close-0 k h g q = record {
    closes = λ w w' t fs d f wants fr G b.
        let z : next (lex s at) ≡ to = sym L.behind in
        rw (L.from_is, L.behind) (closed-good G (L.says.closes ∙ closes-is k) h b (sym (fitting-is G.holding) ∙ sym g ∙ q) (omega (arith, L.inside)) (omega (arith, L.on, L.says.some (λ v. omega arith))));
  }

  all_read : {w w' : List ℕ} {t : Seen} {fs : List Item} {d f wants fr have number : ℕ} {c : Counts} (G : Going s w t fs d f wants fr w' c have number at) → wants ≤ have → leb wants (count G.args) ≡ true
  all_read {wants = wants} G b = leb_yes wants (count G.args) (omega (arith, G.count-is))

  -- Another token has a byte, so there is a step left for it.
  pub close-else : {c c' : Counts} {number have x y z : ℕ} (m : ℕ) → kind ≢ 4 → (14 ≤ m) × (m ≤ 16)
      → ((t : Seen) (d k : ℕ) → length s - at ≤ k → term_at k s t d true (lex s at) ≡ fault m (lex s at).from) → ClosesBy s c c' number have at m from x y z
  close-else m k v h = record { closes = λ w w' t fs d f wants fr G b. rw L.from_is (surplus G (L.says.closes ∙ eqb_no k) v (λ j l. rw (all_read G b) (h G.now (suc d) j l))) }

  some_left : kind ≢ 0 → length s - at ≤ 0 → ⊥
  some_left d l = omega (arith, L.says.some d, L.on, L.inside)

  pub close-15 : {c c' : Counts} {number have x y z : ℕ} → kind ≡ 3 → ClosesBy s c c' number have at 15 from x y z
  close-15 k = close-else 15 (λ z. omega arith) (omega arith, omega arith) go
    where
      go : (t : Seen) (d j : ℕ) → length s - at ≤ j → term_at j s t d true (lex s at) ≡ fault 15 (lex s at).from
      go t d zero l = absurd (some_left (λ z. omega arith) l)
      go t d (suc j) l = surplus-open j s t d (lex s at) (L.says.opens ∙ rw k)

  pub close-own : {c c' : Counts} {number have x y z : ℕ} → kind ≡ 6 → ClosesBy s c c' number have at 15 from x y z
  close-own k = close-else 15 (λ z. omega arith) (omega arith, omega arith) go
    where
      go : (t : Seen) (d j : ℕ) → length s - at ≤ j → term_at j s t d true (lex s at) ≡ fault 15 (lex s at).from
      go t d zero l = absurd (some_left (λ z. omega arith) l)
      go t d (suc j) l = surplus-own j s t d (lex s at) (L.says.opens ∙ rw k) (L.says.own ∙ rw k)

  pub close_other : {c c' : Counts} {number have x y z : ℕ} → kind ≢ 4 → kind ≢ 3 → kind ≢ 6 → ClosesBy s c c' number have at 14 from x y z
  close_other a o q = close-else 14 a (omega arith, omega arith) (λ t d j l. go t d j l (ℕ_discrete kind 0))
    where
      go : (t : Seen) (d j : ℕ) → length s - at ≤ j → Dec (kind ≡ 0) → term_at j s t d true (lex s at) ≡ fault 14 (lex s at).from
      go t d zero l (yes z) = ap (fault 14) (sym (L.says.over z) ∙ L.from_is)
      go t d zero l (no z) = absurd (some_left z l)
      go t d (suc j) l z = surplus-other j s t d (lex s at) (L.says.opens ∙ eqb_no o) (L.says.own ∙ eqb_no q)

pub is_no : {b : Bool} → not b ≡ true → b ≡ false
is_no {b = true} e = let z : ◌≡◌ {A = ℕ} 0 1 = cc in absurd (omega arith)
is_no {b = false} e = refl

pub is_yes : {b : Bool} → not b ≡ false → b ≡ true
is_yes {b = true} e = refl
is_yes {b = false} e = let z : ◌≡◌ {A = ℕ} 0 1 = cc in absurd (omega arith)
