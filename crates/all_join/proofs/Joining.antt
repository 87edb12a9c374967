-- A join that is due, in theory: the labels stay sound and count one class fewer, and the log with its forest takes it in. Older moments do not
-- change, since the new link is younger than they are and the new join stands behind theirs.
-- Assumes nothing.
use Prim.Native.Nat.{ℕ, suc, ◌≤◌, ◌<◌}
use native.Mathlib.Omega.{arith}
use native.Mathlib.Decide.{ℕ_discrete}
use mathlib.Core.Path.{◌≡◌, refl, sym, ap, fun_ext}
use mathlib.Core.Logic.{◌⊎◌, inl, inr}
use mathlib.Core.List.Memᴰ
use mathlib.Core.List.{List, Memᴰ}
use lib.Dec.{leb}
use borrow.Author.Tests.{lt-leb}
use Rattle.meaning.specs.Following.{Rec, Follows, flip, chain, given, congruent, Only}
use Rattle.meaning.specs.Joins.{Join, Why, Grounds, equation, applications, Joined, all, numbers_of, used, count, put}
use Rattle.meaning.specs.Labels.{Labels, into}
use Rattle.meaning.specs.Forest.{root}
use Rattle.meaning.proofs.Count.{count_low}
use Rattle.meaning.proofs.Log.{put-hit, put-miss, grounds-more, linked-same, used-same}
use Rattle.meaning.proofs.Relabel.{into-hit, into-miss, count_same, agree_same, Ends}
use Rattle.meaning.proofs.Forest.{root-stop, root-up, root-labels, link-before, link-after, history-link}
use Rattle.meaning.proofs.Exact.{Settled}
use Rattle.meaning.specs.Limits.{most_tags}
use Rattle.all_join.specs.State.{Logged, Due}

-- What a due join rests on makes its ends equal, ..
due-follows : {rs : List Rec} {L : List ℕ} {f : ℕ → ℕ} → ((x : ℕ) → Follows (Only rs L) x (f x)) → {u v : ℕ} {why : Why}
    → Grounds rs (λ x y. f x ≡ f y) u v why → ((k : ℕ) → Memᴰ k (numbers_of why) → Memᴰ k L) → Follows (Only rs L) u v
due-follows s (equation {k = k} i) h = given (k, h k (Memᴰ.head refl), i)
due-follows {rs = rs} {L = L} {f = f} s (applications {k = k} {k' = k'} i i' p q) h =
    congruent (k, h k (Memᴰ.head refl), i) (k', h k' (Memᴰ.tail (Memᴰ.head refl)), i') (over p) (over q)
  where
    over : {a b : ℕ} → f a ≡ f b → Follows (Only rs L) a b
    over {a} {b} e = let z : Follows (Only rs L) (f a) b = rw e (flip (s b)) in chain (s a) z

-- .. so the labels stay sound.
pub sound-join : {N : ℕ} {rs : List Rec} {L : List ℕ} {f : ℕ → ℕ} {j : Join} (lo hi : ℕ) → ((x : ℕ) → Follows (Only rs L) x (f x)) → Due N rs L f j → Ends f lo hi j
    → (x : ℕ) → Follows (Only rs L) x (into lo hi (f x))
sound-join {N} {rs} {L} {f} {j} lo hi s d e x = go (ℕ_discrete (f x) hi)
  where
    ends : Follows (Only rs L) j.u j.v
    ends = due-follows s d.grounds d.within

    bridge : Ends f lo hi j → Follows (Only rs L) hi lo
    bridge (inl h) = let z : Follows (Only rs L) lo hi = rw (← h.0, ← h.1) (chain (flip (s j.u)) (chain ends (s j.v))) in flip z
    bridge (inr h) = rw (← h.0, ← h.1) (chain (flip (s j.u)) (chain ends (s j.v)))

    go : Dec (f x ≡ hi) → Follows (Only rs L) x (into lo hi (f x))
    go (yes q) = rw (q, into-hit lo hi) (chain (rw q at (s x)) (bridge e))
    go (no q) = rw (into-miss lo hi (f x) q) (s x)

-- Only the first m joins matter to a settled state.
settled-move : {rs : List Rec} {P : ℕ → Type 0} {e e' : ℕ → Join} {m : ℕ} {f f' : ℕ → ℕ} → ((a : ℕ) → a < m → e a ≡ e' a) → f' ≡ f → Settled rs P e m f → Settled rs P e' m f'
settled-move {rs} {P} {e} {e'} {m} {f} {f'} old q s = rw q (record {
  labels = s.labels;
  agree = agree_same old (λ x. refl) s.agree;
  sound = λ a l o. rw (← old a l) (grounds-more (λ x y. linked-same (λ b k. old b (omega arith))) (s.sound a l tt));
  within = λ k i. s.within k (rw (used-same e e' all m old) i);
  closed = s.closed;
})

module _ {rs : List Rec} {L : List ℕ} {places : ℕ} {p g : ℕ → ℕ} {e : ℕ → Join} {wh : ℕ → ℕ} {n : ℕ} (G : Logged rs L places p g e wh n) where
  -- The leaders are a labelling, the newest of the forest's.
  abbrev f : ℕ → ℕ
  f = root p g n

  pub leaders : Labels f
  leaders = root-labels p g most_tags n G.history.links n (omega arith) G.history.room

  -- A tag that leads has no link, and one that has none leads.
  pub leads : (x : ℕ) → f x ≡ x → most_tags ≤ g x
  leads x q = go (G.history.links.age x)
    where
      go : (g x < n) ⊎ (most_tags ≤ g x) → most_tags ≤ g x
      go (inr h) = h
      go (inl h) =
          let up : root p g n x ≡ root p g n (p x) = root-up p g most_tags n G.history.links n (omega arith) G.history.room x h in
          absurd (omega (arith, leaders.low (p x), G.history.links.down x h))

  pub unlinked-leads : (x : ℕ) → most_tags ≤ g x → f x ≡ x
  unlinked-leads x h = root-stop p g most_tags n G.history.links n (omega arith) G.history.room x (omega (arith, G.history.room))

  module _ {N : ℕ} {j : Join} (lo hi : ℕ) (room : suc n ≤ most_tags) (less : lo < hi) (own : f lo ≡ lo) (own' : f hi ≡ hi) (ends : Ends f lo hi j) (d : Due N rs L f j) (some : 1 ≤ places) where
    e' : ℕ → Join
    e' = put n j e

    new : e' n ≡ j
    unfolding e'
    new = put-hit n j e

    old : (a : ℕ) → a < n → e a ≡ e' a
    unfolding e'
    old a l = sym (put-miss n j e a (omega arith))

    joined : (x y : ℕ) → f x ≡ f y → Joined e n x y
    joined x y q = (G.history.then n (omega arith)).joins x y q

    justified' : (a : ℕ) → a < suc n → Dec (a ≡ n) → Grounds rs (Joined e' a) (e' a).u (e' a).v (e' a).why
    justified' a l (yes q) = rw (q, new) (grounds-more (λ x y r. linked-same old (joined x y r)) d.grounds)
    justified' a l (no q) = rw (← (old a (omega arith))) (grounds-more (λ x y. linked-same (λ b k. old b (omega arith))) (G.justified a (omega arith) tt))

    within' : (k : ℕ) → Memᴰ k (used e' all (suc n)) → Memᴰ k L
    within' k i = elim (Memᴰ.append_cases (numbers_of (e' n).why) i) [ inl q ↦ d.within k (rw new at q) | inr q ↦ G.within k (rw (used-same e e' all n old) q) ]

    made' : (a : ℕ) → a < suc n → Dec (a ≡ n) → (1 ≤ put n places wh a) × (put n places wh a ≤ places)
    made' a l (yes q) = rw (q, put-hit n places wh) (some, omega arith)
    made' a l (no q) = rw (put-miss n places wh a q) (G.made a (omega arith))

    order' : (a b : ℕ) → a ≤ b → b < suc n → Dec (a ≡ n) → Dec (b ≡ n) → put n places wh a ≤ put n places wh b
    order' a b l k (yes q) (yes r) = rw (q, r) (omega arith)
    order' a b l k (yes q) (no r) = absurd (omega arith)
    order' a b l k (no q) (yes r) = rw (r, put-hit n places wh, put-miss n places wh a q) (G.made a (omega arith)).1
    order' a b l k (no q) (no r) = rw (put-miss n places wh a q, put-miss n places wh b r) (G.order a b l (omega arith))

    age-same : (k : ℕ) → k < places → count (λ a. leb (put n places wh a) k) (suc n) ≡ count (λ a. leb (wh a) k) n
    age-same k l = rw (put-hit n places wh, lt-leb places k l) (count_same (λ a. leb (put n places wh a) k) (λ a. leb (wh a) k) n (λ a h. ap (λ (v : ℕ). leb v k) (put-miss n places wh a (omega arith))))

    moment : (k : ℕ) → k < places → Settled rs (λ m. m ≤ k) e' (count (λ a. leb (put n places wh a) k) (suc n)) (root (put hi lo p) (put hi n g) (count (λ a. leb (put n places wh a) k) (suc n)))
    moment k l =
        let m = count_low (λ a. leb (wh a) k) n in
        rw (age-same k l) (settled-move (λ a h. old a (omega arith))
        (fun_ext (λ x. link-before p g most_tags n G.history.links room lo hi less (leads lo own) (leads hi own') (count (λ a. leb (wh a) k) n) m x)) (G.moments k l))

    -- The leaders after it, ..
    pub lead-join : root (put hi lo p) (put hi n g) (suc n) ≡ (λ x. into lo hi (f x))
    lead-join = fun_ext (λ x. link-after p g most_tags n G.history.links room lo hi less (leads lo own) (leads hi own') x)

    -- .. and the log.
    pub logged-join : Logged rs L places (put hi lo p) (put hi n g) (put n j e) (put n places wh) (suc n)
    unfolding e'
    logged-join = record {
      history = history-link e n p g most_tags G.history room j lo hi less (leads lo own) (leads hi own') ends;
      justified = λ a l o. justified' a l (ℕ_discrete a n);
      within = within';
      made = λ a l. made' a l (ℕ_discrete a n);
      order = λ a b l k. order' a b l k (ℕ_discrete a n) (ℕ_discrete b n);
      moments = moment;
    }
