-- The two readers, by what the code has. Assumes nothing.
use Prim.Native.Nat.{ℕ, zero, suc, ◌+◌, ◌-◌, ◌*◌, ◌≤◌, ◌<◌}
use native.Mathlib.Omega.{arith}
use native.Mathlib.Numerals.{add-one}
use mathlib.Core.Path.{◌≡◌, refl, sym, ◌∙◌, ap, subst}
use mathlib.Core.Logic.{◌≢◌}
use mathlib.Core.Bool.{Bool, true, false}
use mathlib.Core.List.{List}
use lib.Dec.{eqb, leb}
use lib.ListN.{length}
use Rattle.std.specs.Prelude.{Result, Ok, Err}
use Rattle.std.specs.Result.{IsErr, IsErrAnd}
use Rattle.script_shelf.specs.declared.refusal.Refusal.{Refusal}
use Rattle.script_terms.proofs.Tests.{eqb_no, leb_no, leb_yes}
use Rattle.script_terms.specs.Terms.{none, count}
use Rattle.script_terms.specs.Flat.{Item}
use Rattle.script_meaning.specs.Tokens.{lex, next, text_of}
use Rattle.script_meaning.specs.Reading.{Got, fault, Found, Seen, is_closing, term_at, arguments_at}
use Rattle.script_terms.proofs.Known.{known_grown}
use Rattle.script_meaning.proofs.Laws.{tag-grown}
use Rattle.script_words.specs.Words.{Says, Read}
use Rattle.script_shelf.specs.declared.Counts.{Counts}
use Rattle.script_names.proofs.Symbols.{there}
use Rattle.script_parts.specs.Pairs.{Ready}
use Rattle.script_parts.proofs.Meets.{ready}
use Rattle.script_heads.specs.Names.{Readable, Headed, outside, undeclared, declared, Heads}
use Rattle.script_join.specs.Promises.{Joins, Start, TermRead, refused, found, Terms, Arguments, Going}
use Rattle.script_join.proofs.Laws.{meeting, within-tags}
use Rattle.script_join.proofs.Cycle.{going_start, term-refused, term-joined, term-over, closed_none, closed-few, surplus, bare-outside, term-deep, term-outside, term-undeclared, term-on}
use Rattle.script_term_read.specs.Asks.{TermAsk, ArgumentsAsk, TermAnswered, ArgumentsAnswered, ClosesBy, Closes}
use Rattle.script_term_read.specs.declared.Found.{Found as Answer}
use Rattle.script_term_read.proofs.Ways.{bare-refused}

-- A term that was found, as `meet` needs it.
ready_of : {s w : List ℕ} {t : Seen} {fs : List Item} {d f wants from : ℕ} {w' : List ℕ} {c' : Counts} {have number at : ℕ} (G : Going s w t fs d f wants from w' c' have number at)
    {w'' : List ℕ} {c'' : Counts} {rest n place x y z : ℕ} {read : ℕ → Got Found} → TermRead s w' G.now G.fields rest read w'' c'' n place x y z → n ≡ 0 → Ready w'' c'' number x
ready_of G (refused b i r) q = absurd (let l : 14 ≤ _ = b.0 in omega arith)
ready_of G (found x t' fs' i r S W a K o v) q = ready (meeting S (known_grown W.grown G.known) K (G.number_is ∙ sym (tag-grown W.grown G.known)) a)

module _ {s w : List ℕ} {t : Seen} {fs : List Item} {d f wants from : ℕ} {w' : List ℕ} {c' : Counts} {have number at : ℕ} (G : Going s w t fs d f wants from w' c' have number at)
    (h : have < wants) (e : is_closing (lex s at).token ≡ false) (m : at < next (lex s at)) (i : next (lex s at) ≤ length s) where
  joined_of : {w'' w''' : List ℕ} {c'' c''' : Counts} {n place x y z number' : ℕ} {whole within : Bool} → whole ≡ leb wants (suc have)
      → TermRead s w' G.now G.fields (length s - next (lex s at)) (λ k. term_at k s G.now (suc d) false (lex s at)) w'' c'' n place x y z → n ≡ 0 → Joins w'' w''' c'' c''' number x whole within number' → within ≡ true
      → Going s w t fs d f wants from w''' c''' (suc have) number' z
  joined_of b (refused v j r) q J y = absurd (let l : 14 ≤ _ = v.0 in omega arith)
  joined_of b (found x t' fs' j r S W a K o v) q J y =
      term-joined G h e m i b x t' fs' j r S W K o v (rw y at (J.joined s t' fs' _ _ (meeting S (known_grown W.grown G.known) K (G.number_is ∙ sym (tag-grown W.grown G.known)) a)))

  over-of : {w'' w''' : List ℕ} {c'' c''' c'''' : Counts} {n place x y z number' u k l : ℕ} {whole within : Bool} → whole ≡ leb wants (suc have)
      → TermRead s w' G.now G.fields (length s - next (lex s at)) (λ k. term_at k s G.now (suc d) false (lex s at)) w'' c'' n place x y z → n ≡ 0 → Joins w'' w''' c'' c''' number x whole within number' → within ≡ false
      → TermRead s w t fs (length s - from) (λ k. arguments_at k s t d f wants none from) w''' c'''' 16 y u k l
  over-of b (refused v j r) q J y = absurd (let l : 14 ≤ _ = v.0 in omega arith)
  over-of b (found x t' fs' j r S W a K o v) q J y =
      term-over G h e m i b x t' fs' j r (rw y at (J.joined s t' fs' _ _ (meeting S (known_grown W.grown G.known) K (G.number_is ∙ sym (tag-grown W.grown G.known)) a)))

pub record Loop (s w₀ : List ℕ) (c₀ : Counts) (d f wants from : ℕ) (w : List ℕ) (c : Counts) (have number at : ℕ) : Type 0 where
  pub going : (t : Seen) (fs : List Item) → Start s w₀ c₀ t fs → Going s w₀ t fs d f wants from w c have number at

module _ {s w₀ : List ℕ} {c₀ : Counts} {f from : ℕ} (A : ArgumentsAsk s w₀ c₀ f from) where
  pub loop-start : (d wants : ℕ) → Loop s w₀ c₀ d f wants from w₀ c₀ 0 f from
  loop-start d wants = record { going = λ t fs S. going_start d f wants from S A.declared A.inside }

  module _ {d wants : ℕ} {w : List ℕ} {c : Counts} {have number at : ℕ} (Z : Loop s w₀ c₀ d f wants from w c have number at) where
    pub one : Going s w₀ A.seen A.fields d f wants from w c have number at
    one = Z.going A.seen A.fields A.start

    pub turn-closed : {n place x y z : ℕ} {c' : Counts} → ClosesBy s c c' number have at n place x y z → wants ≤ have → Arguments s w₀ w c₀ c' d f wants from n place x y z
    turn-closed C b = record { reads = λ t fs S. C.closes w₀ w t fs d f wants from (Z.going t fs S) b }

    module _ (h : have < wants) {kind fr to : ℕ} (L : Read s at kind fr to) where
      pub turn-ask : TermAsk s w c at kind fr to
      turn-ask = record { lexed = L; seen = one.now; fields = one.fields; start = record { holding = one.holding; within = one.within h } }

      kinds : Says s (lex s at).token kind fr to
      kinds = L.says

      pub turn-none : {x y z : ℕ} {c' : Counts} → kind ≡ 4 → have ≡ 0 → Arguments s w₀ w c₀ c' d f wants from 14 fr x y z
      turn-none k q = record { reads = λ t fs S. rw L.from_is (closed_none (Z.going t fs S) (kinds.closes ∙ rw k) q) }

      pub turn-few : {x y z : ℕ} {c' : Counts} → kind ≡ 4 → have ≢ 0 → Arguments s w₀ w c₀ c' d f wants from 15 fr x y z
      turn-few k q = record { reads = λ t fs S. rw L.from_is (closed-few (Z.going t fs S) (kinds.closes ∙ rw k) q h) }

      pub turn-ended : {x y z : ℕ} {c' : Counts} → kind ≡ 0 → Arguments s w₀ w c₀ c' d f wants from 14 fr x y z
      turn-ended k = record {
        reads = λ t fs S. let G = Z.going t fs S in
            rw L.from_is (surplus G (kinds.closes ∙ rw k) (omega arith, omega arith) (λ j l. rw (leb_no wants (count G.args) (omega (arith, G.count-is))) (go G.now j)));
      }
        where
          go : (t : Seen) (j : ℕ) → term_at j s t (suc d) false (lex s at) ≡ fault 14 (lex s at).from
          go t zero = ap (fault 14) (sym (L.says.over k) ∙ L.from_is)
          go t (suc j) = bare-outside s t (suc d) (lex s at) j (kinds.opens ∙ rw k) (kinds.own ∙ rw k)

      module _ (k : kind ≢ 0) (o : kind ≢ 4) where
        no-close : eqb kind 4 ≡ false
        no-close = eqb_no o

        on : at < next (lex s at)
        on = omega (arith, L.behind, L.says.some k, L.on)

        in-script : next (lex s at) ≤ length s
        in-script = omega (arith, L.behind, L.inside)

        pub turn-refused : {w'' : List ℕ} {c'' : Counts} {n place x y z : ℕ} → Terms s w w'' c c'' (d + 1) (lex s at) n place x y z → n ≢ 0 → Arguments s w₀ w'' c₀ c'' d f wants from n place x y z
        turn-refused T q = record { reads = λ t fs S. let G = Z.going t fs S in term-refused G h (kinds.closes ∙ no-close) on in-script (rw (add-one d) at (T.reads G.now G.fields (record { holding = G.holding; within = G.within h }))) q }

        read-on : {w'' : List ℕ} {c'' : Counts} {n place x y z : ℕ} → Terms s w w'' c c'' (d + 1) (lex s at) n place x y z → (t : Seen) (fs : List Item) (S : Start s w₀ c₀ t fs)
            → TermRead s w (Z.going t fs S).now (Z.going t fs S).fields (length s - next (lex s at)) (λ j. term_at j s (Z.going t fs S).now (suc d) false (lex s at)) w'' c'' n place x y z
        read-on T t fs S = let G = Z.going t fs S in rw (add-one d) at (T.reads G.now G.fields (record { holding = G.holding; within = G.within h }))

        pub turn-ready : {w'' : List ℕ} {c'' : Counts} {n place x y z : ℕ} → Terms s w w'' c c'' (d + 1) (lex s at) n place x y z → n ≡ 0 → Ready w'' c'' number x
        turn-ready T q = ready_of (Z.going A.seen A.fields A.start) (read-on T A.seen A.fields A.start) q

        pub turn-joined : {w'' w''' : List ℕ} {c'' c''' : Counts} {n place x y z number' : ℕ} {whole within : Bool} → Terms s w w'' c c'' (d + 1) (lex s at) n place x y z → n ≡ 0 → whole ≡ leb wants (have + 1) → Joins w'' w''' c'' c''' number x whole within number' → within ≡ true
            → Loop s w₀ c₀ d f wants from w''' c''' (have + 1) number' z
        turn-joined T q b J v = record { going = λ t fs S. rw (add-one have) (joined_of (Z.going t fs S) h (kinds.closes ∙ no-close) on in-script (rw (add-one have) at b) (read-on T t fs S) q J v) }

        pub turn-over : {w'' w''' : List ℕ} {c'' c''' c'''' : Counts} {n place x y z number' u i j : ℕ} {whole within : Bool} → Terms s w w'' c c'' (d + 1) (lex s at) n place x y z → n ≡ 0 → whole ≡ leb wants (have + 1) → Joins w'' w''' c'' c''' number x whole within number' → within ≡ false
            → Arguments s w₀ w''' c₀ c'''' d f wants from 16 y u i j
        turn-over T q b J v = record { reads = λ t fs S. (over-of (Z.going t fs S) h (kinds.closes ∙ no-close) on in-script (rw (add-one have) at b) (read-on T t fs S) q J v) }

-- The term reader.
module _ {s w : List ℕ} {c : Counts} {at kind from to : ℕ} (A : TermAsk s w c at kind from to) (o : kind ≡ 3) (d : ℕ) where
  kinds-of : Says s (lex s at).token kind from to
  kinds-of = A.lexed.says

  opens-it : eqb kind 3 ≡ true
  opens-it = rw o

  pub way_deep : {x y z : ℕ} {c' : Counts} → 32 < d → Terms s w w c c' d (lex s at) 16 from x y z
  way_deep b = bare-refused A 16 (omega arith, omega arith) (λ t fs S k. term-deep s t d (lex s at) k (kinds-of.opens ∙ opens-it) (leb_no d 32 b))

  pub way-readable : Readable s w c to
  way-readable = record { inside = A.lexed.inside; seen = A.seen; fields = A.fields; holding = A.start.holding }

  pub way-head : {x y z m p v u i : ℕ} {c' : Counts} → d ≤ 32 → Heads s w c to m p v u i → m ≢ 0 → Terms s w w c c' d (lex s at) m p x y z
  way-head {m = m} {p = p} {v = v} {u = u} {i = i} b H q = record { reads = λ t fs S. (head_of t (subst (λ at. Headed s t at m p v u i) A.lexed.behind (H.headed t fs S.holding)) q) }
    where
      go : (t : Seen) {a : Got Found} → ((k : ℕ) → term_at (suc k) s t d false (lex s at) ≡ a) → (k : ℕ) → length s - next (lex s at) < k → term_at k s t d false (lex s at) ≡ a
      go t g zero l = absurd (omega arith)
      go t g (suc k) l = g k

      head_of : (t : Seen) {fs : List Item} {m p v u i x y z : ℕ} {c' : Counts} → Headed s t (next (lex s at)) m p v u i → m ≢ 0 → TermRead s w t fs (length s - next (lex s at)) (λ k. term_at k s t d false (lex s at)) w c' m p x y z
      head_of t (outside a) q = refused {n = 14} (omega arith, omega arith) refl (go t (λ k. term-outside s t d (lex s at) k (kinds-of.opens ∙ opens-it) (leb_yes d 32 b) a))
      head_of t (undeclared a g) q = refused {n = 15} (omega arith, omega arith) refl (go t (λ k. term-undeclared s t d (lex s at) k (kinds-of.opens ∙ opens-it) (leb_yes d 32 b) a g))
      head_of t (declared a g h j k l n) q = absurd (q refl)

  head_at : {m p v u i : ℕ} → Heads s w c to m p v u i → (t : Seen) (fs : List Item) → Start s w c t fs → Headed s t (next (lex s at)) m p v u i
  head_at {m} {p} {v} {u} {i} H t fs S = subst (λ at. Headed s t at m p v u i) A.lexed.behind (H.headed t fs S.holding)

  few-of : {t : Seen} {fs : List Item} {m p v u i : ℕ} → Start s w c t fs → Headed s t (next (lex s at)) m p v u i → m ≡ 0 → (v < 1001) × (i ≤ length s)
  few-of S (outside a) q = absurd (omega arith)
  few-of S (undeclared a g) q = absurd (omega arith)
  few-of {t} S (declared a g h j k l n) q = (omega (arith, (there t.symbols (text_of (lex s (next (lex s at))).token) g).below, within-tags S), n)

  pub way-ask : {m p v u i : ℕ} → Heads s w c to m p v u i → m ≡ 0 → ArgumentsAsk s w c v i
  way-ask H q = let r = few-of A.start (head_at H A.seen A.fields A.start) q in record { inside = r.1; declared = r.0; seen = A.seen; fields = A.fields; start = A.start }

  on-to : {t : Seen} {fs : List Item} {w' : List ℕ} {c' : Counts} {n place x y z v u i : ℕ} → ((k : ℕ) → term_at (suc k) s t d false (lex s at) ≡ arguments_at k s t d v u none i) → next (lex s at) < i → i ≤ length s
      → TermRead s w t fs (length s - i) (λ k. arguments_at k s t d v u none i) w' c' n place x y z → TermRead s w t fs (length s - next (lex s at)) (λ k. term_at k s t d false (lex s at)) w' c' n place x y z
  on-to {t} {v = v₁} {u = u₁} {i = i} g b l (refused {n = n} a z r) = refused {n = n} a z (λ k m. step-on k m r)
    where
      step-on : {a : Got Found} (k : ℕ) → length s - next (lex s at) < k → ((k : ℕ) → length s - i < k → arguments_at k s t d v₁ u₁ none i ≡ a) → term_at k s t d false (lex s at) ≡ a
      step-on zero m r = absurd (omega arith)
      step-on (suc k) m r = g k ∙ r k (omega arith)
  on-to {t} {v = v₁} {u = u₁} {i = i} g b l (found x t' fs' z r S W a K o v) = found x t' fs' z (λ k m. step-on k m r) S W a K o (omega arith)
    where
      step-on : {a : Got Found} (k : ℕ) → length s - next (lex s at) < k → ((k : ℕ) → length s - i < k → arguments_at k s t d v₁ u₁ none i ≡ a) → term_at k s t d false (lex s at) ≡ a
      step-on zero m r = absurd (omega arith)
      step-on (suc k) m r = g k ∙ r k (omega arith)

  pub way_on : {w' : List ℕ} {c' : Counts} {n place x y z m p v u i : ℕ} → d ≤ 32 → Heads s w c to m p v u i → m ≡ 0 → Arguments s w w' c c' d v u i n place x y z → Terms s w w' c c' d (lex s at) n place x y z
  way_on b H q R = record { reads = λ t fs S. go t fs (head_at H t fs S) q (R.reads t fs S) }
    where
      go : (t : Seen) (fs : List Item) {w' : List ℕ} {c' : Counts} {n place x y z m p v u i : ℕ} → Headed s t (next (lex s at)) m p v u i → m ≡ 0 → TermRead s w t fs (length s - i) (λ k. arguments_at k s t d v u none i) w' c' n place x y z
          → TermRead s w t fs (length s - next (lex s at)) (λ k. term_at k s t d false (lex s at)) w' c' n place x y z
      go t fs (outside a) q r = absurd (omega arith)
      go t fs (undeclared a g) q r = absurd (omega arith)
      go t fs (declared a g h j k l n) q r = on-to (λ y. term-on s t d (lex s at) y (kinds-of.opens ∙ opens-it) (leb_yes d 32 b) a g ∙ rw (h, j, k)) l n r

  pub head-15 : {m p v u i : ℕ} → Heads s w c to m p v u i → m ≢ 14 → m ≢ 0 → m ≡ 15
  head-15 H = go (head_at H A.seen A.fields A.start)
    where
      go : {t : Seen} {m p v u i : ℕ} → Headed s t (next (lex s at)) m p v u i → m ≢ 14 → m ≢ 0 → m ≡ 15
      go (outside a) d e = absurd (d refl)
      go (undeclared a g) d e = refl
      go (declared a g h j k l n) d e = absurd (e refl)

-- The whole answer, a refusal or not.
pub closed-told : {s w₀ : List ℕ} {c₀ : Counts} {f from : ℕ} (A : ArgumentsAsk s w₀ c₀ f from) {d wants : ℕ} {w : List ℕ} {c : Counts} {have number at : ℕ} → Loop s w₀ c₀ d f wants from w c have number at → have ≡ wants → (r : Result Answer Refusal) → Closes s c number wants at r
    → ArgumentsAnswered s w₀ w c₀ d f wants from r
closed-told {s} {w₀} {c₀} {f} {from} A {d} {wants} {w} {c} {number = number} {at = at} Z e r C = go (subst (λ h. Loop s w₀ c₀ d f wants from w c h number at) e Z) r C
  where
    go : Loop s w₀ c₀ d f wants from w c wants number at → (r : Result Answer Refusal) → Closes s c number wants at r → ArgumentsAnswered s w₀ w c₀ d f wants from r
    go Y (Ok a) C = record { told = turn-closed A Y C.told (omega arith) }
    go Y (Err e) C = record { told = λ c' x y z. turn-closed A Y (C.told c' x y z) (omega arith) }

pub on-told : {s w : List ℕ} {c : Counts} {at kind from to : ℕ} → TermAsk s w c at kind from to → kind ≡ 3 → {d : ℕ} → d ≤ 32 → {m p v u i : ℕ} → Heads s w c to m p v u i → m ≡ 0 → {w' : List ℕ} (r : Result Answer Refusal) → ArgumentsAnswered s w w' c d v u i r
    → TermAnswered s w w' c d (lex s at) r
on-told A o {d} b H q (Ok a) R = record { told = way_on A o d b H q R.told }
on-told A o {d} b H q (Err e) R = record { told = λ c' x y z. way_on A o d b H q (R.told c' x y z) }

-- The number that falls: twice the unread rest, and a little.
pub behind-on : {s : List ℕ} {at kind from to : ℕ} → Read s at kind from to → kind ≢ 0 → at ≤ to
behind-on L k = omega (arith, L.on, L.says.some k)

pub fall-term : (l from at to t : ℕ) → 2 * (l - from) + 2 ≡ t → from ≤ at → at ≤ to → 2 * (l - to) + 1 < t
fall-term l from at to t e a b = omega arith

pub fall-arguments : (l to i t : ℕ) → 2 * (l - to) + 1 ≡ t → (to < i) × (i ≤ l) → 2 * (l - i) + 2 < t
fall-arguments l to i t e b = let u = b.0 in let v = b.1 in omega arith

head-behind : {s : List ℕ} {t : Seen} {to m p v u i : ℕ} → Headed s t to m p v u i → m ≡ 0 → (to < i) × (i ≤ length s)
head-behind (outside a) q = absurd (omega arith)
head-behind (undeclared a g) q = absurd (omega arith)
head-behind (declared a g h j k l n) q = (l, n)

pub way-behind : {s w : List ℕ} {c : Counts} {at kind from to m p v u i : ℕ} → TermAsk s w c at kind from to → Heads s w c to m p v u i → m ≡ 0 → (to < i) × (i ≤ length s)
way-behind A H q = head-behind (H.headed A.seen A.fields A.start.holding) q

-- What a `?` hands on is the refusal that came.
pub handed : {B : Type 0} {r : Result B Refusal} {e : Refusal} → IsErr r × IsErrAnd r (λ y. y ≡ e) → r ≡ Err e
handed {r = Ok b} h = absurd h.1
handed {r = Err y} h = ap Err h.1
