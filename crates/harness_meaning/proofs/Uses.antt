-- A level by lists of uses: each tag of the level goes through the records that have it, from the highest down. Filing a record keeps the lists right, each step of a walk keeps
-- what was tried, and when every tag of the level has been through both its lists, the next level is done. Assumes nothing.
use Prim.Native.Nat.{ℕ, suc, ◌<◌}
use native.Mathlib.Omega.{arith}
use native.Mathlib.Decide.{ℕ_discrete, dec_lt}
use mathlib.Core.Path.{◌≡◌, refl, sym, ◌∙◌, ap}
use mathlib.Core.Logic.{◌⊎◌, inl, inr}
use mathlib.Core.List.Memᴰ
use mathlib.Core.List.{List, [], ◌∷◌, Memᴰ}
use Rattle.meaning.specs.Joins.{put}
use Rattle.meaning.proofs.Log.{put-hit, put-miss}
use Rattle.harness_meaning.specs.Search.{Ends, forth, back, Within, Levels, During, State, offer, Prev, Uses, From, Walked, before, first_of, second-of}
use Rattle.harness_meaning.proofs.Offers.{With, offered}
use Rattle.harness_meaning.proofs.Found.{during-said, level-begins, level-ends}

-- Filing.
pub uses-none : (f links : ℕ → ℕ) → Uses f 0 (λ x. 0) links
uses-none f links = record { begin = λ x. record { below = omega arith; is = λ l. absurd (omega arith); none = λ j l h e. omega arith }; lead = λ k w. absurd (omega (arith, w.0, w.1)) }

pub uses-more : {f heads links : ℕ → ℕ} {R : ℕ} → Uses f R heads links → Uses f (suc R) (put (f (suc R)) (suc R) heads) (put (suc R) (heads (f (suc R))) links)
uses-more {f} {heads} {links} {R} h = record { begin = λ x. begins x (ℕ_discrete x (f (suc R))); lead = λ k w. leads k w (ℕ_discrete k (suc R)) }
  where
    begins : (x : ℕ) → Dec (x ≡ f (suc R)) → Prev f (suc (suc R)) x (put (f (suc R)) (suc R) heads x)
    begins x (yes q) = rw (q, put-hit (f (suc R)) (suc R) heads) (record { below = omega arith; is = λ l. refl; none = λ j l m e. omega arith })
    begins x (no q) = rw (put-miss (f (suc R)) (suc R) heads x q) (record { below = omega (arith, (h.begin x).below); is = (h.begin x).is; none = λ j l m e. last j l e (ℕ_discrete j (suc R)) m })
      where
        last : (j : ℕ) → heads x < j → f j ≡ x → Dec (j ≡ suc R) → j < suc (suc R) → ⊥
        last j l e (yes z) m = q (sym e ∙ ap f z)
        last j l e (no z) m = (h.begin x).none j l (omega arith) e

    leads : (k : ℕ) → Within (suc R) k → Dec (k ≡ suc R) → Prev f k (f k) (put (suc R) (heads (f (suc R))) links k)
    leads k w (yes q) = rw (q, put-hit (suc R) (heads (f (suc R))) links) (h.begin (f (suc R)))
    leads k w (no q) = rw (put-miss (suc R) (heads (f (suc R))) links k q) (h.lead k (w.0, omega (arith, w.1)))

module _ {a b : ℕ → ℕ} {R s d top : ℕ} where
  -- A tag's walk begins with the last record of each of its lists, ..
  pub walk-begin : {ha la hb lb lev last : ℕ → ℕ} {X : List ℕ} (u : ℕ) → Uses a R ha la → Uses b R hb lb → During a b R s d top (From a b X) lev last → During a b R s d top (Walked a b X u (ha u) (hb u)) lev last
  walk-begin {ha} {la} {hb} {lb} {lev} {last} {X} u f g h = during-said (λ k x v w e i. said k v w i) h
    where
      said : (k v : ℕ) → Within R k → Walked a b X u (ha u) (hb u) k v → From a b X k v
      said k v w (before i) = i
      said k v w (first_of p q l) = absurd ((f.begin u).none k l (omega (arith, w.1)) (sym p))
      said k v w (second-of p q l) = absurd ((g.begin u).none k l (omega (arith, w.1)) (sym p))

  -- .. tries it towards its other end and goes on by its link, in the first list ..
  pub walk_first : {ha la : ℕ → ℕ} {X : List ℕ} {u p q : ℕ} (st : State) → Uses a R ha la → Within R p → u ≡ a p → During a b R s d top (Walked a b X u p q) st.lev st.last
      → let r = offer a b d top p u (b p) st in During a b R s d top (Walked a b X u (la p) q) r.lev r.last
  walk_first {ha} {la} {X} {u} {p} {q} st f w e h = during-said (λ k x v i g j. said k v j) (offered st h p u (b p) w (forth e refl))
    where
      split : (k v : ℕ) → u ≡ a k → v ≡ b k → la p < k → Dec (p < k) → Dec (k ≡ p) → With (Walked a b X u p q) p (b p) k v
      split k v x y l (yes o) z = inl (first_of x y o)
      split k v x y l (no o) (yes z) = inr (z, y ∙ ap b z)
      split k v x y l (no o) (no z) = absurd ((f.lead p w).none k l (omega arith) (sym x ∙ e))

      said : (k v : ℕ) → Walked a b X u (la p) q k v → With (Walked a b X u p q) p (b p) k v
      said k v (before i) = inl (before i)
      said k v (first_of x y l) = split k v x y l (dec_lt p k) (ℕ_discrete k p)
      said k v (second-of x y l) = inl (second-of x y l)

  -- .. and in the second.
  pub walk-second : {hb lb : ℕ → ℕ} {X : List ℕ} {u p q : ℕ} (st : State) → Uses b R hb lb → Within R q → u ≡ b q → During a b R s d top (Walked a b X u p q) st.lev st.last
      → let r = offer a b d top q u (a q) st in During a b R s d top (Walked a b X u p (lb q)) r.lev r.last
  walk-second {hb} {lb} {X} {u} {p} {q} st f w e h = during-said (λ k x v i g j. said k v j) (offered st h q u (a q) w (back e refl))
    where
      split : (k v : ℕ) → u ≡ b k → v ≡ a k → lb q < k → Dec (q < k) → Dec (k ≡ q) → With (Walked a b X u p q) q (a q) k v
      split k v x y l (yes o) z = inl (second-of x y o)
      split k v x y l (no o) (yes z) = inr (z, y ∙ ap a z)
      split k v x y l (no o) (no z) = absurd ((f.lead q w).none k l (omega arith) (sym x ∙ e))

      said : (k v : ℕ) → Walked a b X u p (lb q) k v → With (Walked a b X u p q) q (a q) k v
      said k v (before i) = inl (before i)
      said k v (first_of x y l) = inl (first_of x y l)
      said k v (second-of x y l) = split k v x y l (dec_lt q k) (ℕ_discrete k q)

  -- At the end of both lists the tag is one of those that all records were tried from.
  pub walk_end : {lev last : ℕ → ℕ} {X : List ℕ} {u : ℕ} → During a b R s d top (Walked a b X u 0 0) lev last → During a b R s d top (From a b (u ∷ X)) lev last
  walk_end {lev} {last} {X} {u} h = during-said (λ k x v w e i. said k v w (Memᴰ.cases_cons i.1) i.2) h
    where
      ours : (k x v : ℕ) → Within R k → x ≡ u → Ends a b k x v → Walked a b X u 0 0 k v
      ours k x v w q (forth p r) = first_of (sym q ∙ p) r (omega (arith, w.0))
      ours k x v w q (back p r) = second-of (sym q ∙ p) r (omega (arith, w.0))

      said : {x : ℕ} (k v : ℕ) → Within R k → (x ≡ u) ⊎ Memᴰ x X → Ends a b k x v → Walked a b X u 0 0 k v
      said {x} k v w (inl q) e = ours k x v w q e
      said {x} k v w (inr m) e = before (x, m, e)

  -- A level begins with no tag, and is done when its tags are all among X.
  pub tags-begin : {lev last : ℕ → ℕ} → Levels a b R s d top lev last → suc d < top → During a b R s d top (From a b []) lev last
  tags-begin h l = during-said (λ k x v w e i. Memᴰ.not-nil i.1) (level-begins h l)

  pub tags-end : {lev last : ℕ → ℕ} {X : List ℕ} → During a b R s d top (From a b X) lev last → ((u : ℕ) → lev u ≡ d → Memᴰ u X) → Levels a b R s (suc d) top lev last
  tags-end h all = level-ends h (λ k u v w e q. (u, all u q, e))

-- Only the links of the records that are filed count.
pub uses-same : {f heads links links' : ℕ → ℕ} {R : ℕ} → Uses f R heads links → ((k : ℕ) → Within R k → links' k ≡ links k) → Uses f R heads links'
uses-same h e = record { begin = h.begin; lead = λ k w. rw (e k w) (h.lead k w) }
