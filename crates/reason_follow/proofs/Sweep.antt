-- From the newest join down, each marked one is given what it rests on, which is older than itself: what is marked later never rests on a younger join. Assumes nothing.
use Prim.Native.Nat.{ℕ, suc, ◌≤◌, ◌<◌}
use native.Mathlib.Omega.{arith}
use native.Mathlib.Decide.{ℕ_discrete, dec_lt}
use mathlib.Core.Path.{◌≡◌, refl, sym, ◌∙◌}
use mathlib.Core.Logic.{◌≢◌, ◌⊎◌, inl, inr}
use mathlib.Core.Bool.{Bool}
use mathlib.Core.List.{List}
use lib.Dec.{T}
use borrow.Author.Tests.{ne_eqb}
use Rattle.meaning.specs.Following.{Rec}
use Rattle.meaning.specs.Joins.{Join, Linked, Grounds, equation, applications, Supported}
use Rattle.meaning.specs.Needed.{Aim, tags, join, Needed, near-side, far-side, across, itself, lefts, rights}
use Rattle.meaning.proofs.Log.{linked-more, grounds-more}
use Rattle.table.specs.Map.{mark_of, join_at, records_in, Within}
use Rattle.table.specs.Past.{Past}
use Rattle.table.specs.Places.{list_part}
use Rattle.table.proofs.Frame.{within-refl, within-trans, within_wider}
use Rattle.moment.specs.Holding.{marked}
use Rattle.moment.proofs.Kept.{kept-joins, kept-records, kept-past, kept-marks}
use Rattle.moment.proofs.Known.{Two, join_one, join-two}
use Rattle.reason_follow.specs.Shown.{Remembers, Forgot}
use Rattle.reason_follow.specs.Ways.{follow_part, Passed}
use Rattle.reason_follow.specs.Tracing.{Together, Unfollowed, Caused, Rested, Behind, Swept, Traced}
use Rattle.reason_follow.proofs.Crossing.{wider, kept-together}
use Rattle.reason_follow.proofs.Shown.{shown-none}

-- Following what comes by a join comes by all that the join rests on.
needed-through : {rs : List Rec} {e : ℕ → Join} {aim : Aim} {a b : ℕ} → Needed rs e aim b → Needed rs e (join b) a → Needed rs e aim a
needed-through (near-side c i) j = near-side c (needed-through i j)
needed-through (far-side c i) j = far-side c (needed-through i j)
needed-through (across c i) j = across c (needed-through i j)
needed-through itself j = j
needed-through (lefts q k k' i) j = lefts q k k' (needed-through i j)
needed-through (rights q k k' i) j = rights q k k' (needed-through i j)

pub rested-unmarked : {w : List ℕ} {b : ℕ} → Remembers w b → mark_of w b ≢ 1 → Rested w w b
rested-unmarked {w} {b} r d = record {
  kept = within-refl w;
  remembers = r;
  more = λ a h. h;
  grounds = λ N len n P l h. absurd (rw (ne_eqb (mark_of w b) 1 d) at h);
  fresh = λ N len n P l a h. inl h;
}

pub rested-one : {w : List ℕ} {b q a a' c c' : ℕ} → Remembers w b → Caused w b q a a' c c' → q ≡ 0 → Rested w w b
rested-one {w} {b} r k z = record {
  kept = within-refl w;
  remembers = r;
  more = λ a h. h;
  grounds = λ N len n P l h. let o = join_one P b l (sym k.second_is ∙ z) in rw o.why (equation o.at);
  fresh = λ N len n P l a h. inl h;
}

linked-at : {e e' : ℕ → Join} {m : ℕ → Bool} {b s t s' t' : ℕ} → e ≡ e' → s ≡ s' → t ≡ t' → Linked e m b s t → Linked e' m b s' t'
linked-at p q r i = rw (← p, ← q, ← r) i

needed-at : {rs : List Rec} {e e' : ℕ → Join} {s t s' t' a : ℕ} → e ≡ e' → s ≡ s' → t ≡ t' → Needed rs e (tags s t) a → Needed rs e' (tags s' t') a
needed-at p q r i = rw (← p, ← q, ← r) i

pub rested-two : {w w₁ w₂ : List ℕ} {b q a a' c c' : ℕ} → Caused w b q a a' c c' → q ≢ 0 → mark_of w b ≡ 1 → Passed w w₁ b a a' → Passed w₁ w₂ b c c' → Rested w w₂ b
rested-two {w} {w₁} {w₂} {b} {q} {a} {a'} {c} {c'} k z m x y = record {
  kept = within-trans x.kept y.kept;
  remembers = y.remembers;
  more = λ i h. y.more i (x.more i h);
  grounds = λ N len n P l h. let o = two P l in
      rw o.why (applications o.at o.at' (linked-at refl k.a-is k.a'-is (linked-more y.more x.linked)) (linked-at same k.c-is k.c'-is y.linked));
  fresh = λ N len n P l i h. let o = two P l in
      elim (y.fresh i h) [
        | inl h₁ ↦ elim (x.fresh i h₁) [ inl h₀ ↦ inl h₀ | inr r ↦ inr (r.0, is-marked, lefts o.why o.at o.at' (needed-at refl k.a-is k.a'-is (r.1 (records_in len w)))) ]
        | inr r ↦ inr (r.0, is-marked, rights o.why o.at o.at' (needed-at same k.c-is k.c'-is (r.1 (records_in len w))))
      ];
}
  where
    same : join_at w₁ ≡ join_at w
    same = kept-joins (wider x.kept)

    is-marked : T (marked w b)
    is-marked = rw m tt

    two : {N len n : ℕ} → Past N len w n → b < n → Two N len w b
    two P l = join-two P b l (λ e. z (k.second_is ∙ e))

grounds-at : {rs rs' : List Rec} {e e' : ℕ → Join} {m : ℕ → Bool} {b : ℕ} → rs ≡ rs' → e ≡ e' → Grounds rs (Linked e m b) (e b).u (e b).v (e b).why → Grounds rs' (Linked e' m b) (e' b).u (e' b).v (e' b).why
grounds-at p q g = rw (← p, ← q) g

grounds-for : {rs : List Rec} {e : ℕ → Join} {m : ℕ → Bool} {a b : ℕ} → a ≡ b → Grounds rs (Linked e m b) (e b).u (e b).v (e b).why → Grounds rs (Linked e m a) (e a).u (e a).v (e a).why
grounds-for q g = rw q g

join-at : {rs rs' : List Rec} {e e' : ℕ → Join} {aim : Aim} {a : ℕ} → rs ≡ rs' → e ≡ e' → Needed rs e aim a → Needed rs' e' aim a
join-at p q g = rw (← p, ← q) g

marked-to : {f g : ℕ → Bool} → f ≡ g → (a : ℕ) → T (f a) → T (g a)
marked-to q a h = rw (← q) h

mark-at : (m : ℕ → Bool) {a b : ℕ} → a ≡ b → T (m a) → T (m b)
mark-at m q h = rw (← q) h

pub remembers-fewer : {w : List ℕ} {a b : ℕ} → a ≤ b → Remembers w b → Remembers w a
remembers-fewer l r = record { top = r.top; reach = omega (arith, r.reach); shown = r.shown }

pub swept_none : (w : List ℕ) (limit : ℕ) → limit ≤ 0 → Swept w w limit
swept_none w limit z = record { kept = within-refl w; more = λ a h. h; grounds = λ N len n P l a i h. absurd (omega arith); fresh = λ N len n P l a h. inl h }

pub swept-more : {w w₁ w₂ : List ℕ} {limit b : ℕ} → limit ≡ suc b → Rested w w₁ b → Swept w₁ w₂ b → Swept w w₂ limit
swept-more {w} {w₁} {w₂} {limit} {b} e R S = record {
  kept = within-trans R.kept S.kept;
  more = λ a h. S.more a (R.more a h);
  grounds = λ N len n P l a i h. go N len n P l a i h (ℕ_discrete a b);
  fresh = λ N len n P l a h. elim (S.fresh N len n (past P) (omega arith) a h) [
    | inl i ↦ elim (R.fresh N len n P (omega arith) a i) [ inl j ↦ inl j | inr j ↦ inr (omega (arith, j.0), record { by = b; older = omega arith; was = j.1; needed = j.2 }) ]
    | inr i ↦ inr (omega (arith, i.0), through N len n P l a i.1)
  ];
}
  where
    same : join_at w₁ ≡ join_at w
    same = kept-joins (wider R.kept)

    past : {N len n : ℕ} → Past N len w n → Past N len w₁ n
    past P = kept-past (wider R.kept) P

    through : (N len n : ℕ) → Past N len w n → limit ≤ n → (a : ℕ) → Behind (records_in len w₁) w₁ b a → Behind (records_in len w) w limit a
    through N len n P l a h =
        let j : Needed (records_in len w) (join_at w) (join h.by) a = join-at (kept-records (wider R.kept) len) same h.needed in
        elim (R.fresh N len n P (omega arith) h.by h.was) [
          | inl i ↦ record { by = h.by; older = omega (arith, h.older); was = i; needed = j }
          | inr i ↦ record { by = b; older = omega arith; was = i.1; needed = needed-through i.2 j }
        ]

    -- The mark of a join was there before what it rests on was followed.
    before : (N len n : ℕ) → Past N len w n → limit ≤ n → T (marked w₂ b) → T (marked w b)
    before N len n P l h = elim (S.fresh N len n (past P) (omega arith) b h) [
      | inl i ↦ elim (R.fresh N len n P (omega arith) b i) [ inl j ↦ j | inr j ↦ absurd (omega (arith, j.0)) ]
      | inr i ↦ absurd (omega (arith, i.0))
    ]

    go : (N len n : ℕ) → Past N len w n → limit ≤ n → (a : ℕ) → a < limit → T (marked w₂ a) → Dec (a ≡ b)
        → Grounds (records_in len w) (Linked (join_at w) (marked w₂) a) (join_at w a).u (join_at w a).v (join_at w a).why
    go N len n P l a i h (yes q) = grounds-for q (grounds-more (λ x y. linked-more S.more) (R.grounds N len n P (omega arith) (before N len n P l (mark-at (marked w₂) q h))))
    go N len n P l a i h (no q) = grounds-at (kept-records (wider R.kept) len) same (S.grounds N len n (past P) (omega arith) a (omega arith) h)

-- Before the way each tag is made its own label: nothing is shown yet, and nothing else changes.
module _ {w w₀ : List ℕ} (F : Forgot w w₀) where
  forgot_kept : Within follow_part w w₀
  forgot_kept = within_wider follow_part (omega arith) (omega arith) F.kept

  forgot-marks : marked w₀ ≡ marked w
  forgot-marks = kept-marks (within_wider list_part (omega arith) (omega arith) F.kept)

  pub forgot-together : {s t limit : ℕ} → Together w s t limit → Together w₀ s t limit
  forgot-together h = kept-together forgot_kept h

  pub forgot-remembers : {s t limit : ℕ} → Unfollowed w s t limit → Remembers w₀ limit
  forgot-remembers {limit = limit} U = record { top = limit; reach = omega arith; shown = shown-none (λ a l h. U.none a l (marked-to forgot-marks a h)) F.labels }

  pub forgot-passed : {w₁ : List ℕ} {s t limit : ℕ} → Passed w₀ w₁ limit s t → Passed w w₁ limit s t
  forgot-passed {w₁} {s} {t} {limit} P = record {
    kept = within-trans forgot_kept P.kept;
    linked = linked-at (kept-joins (wider forgot_kept)) refl refl P.linked;
    remembers = P.remembers;
    more = λ a h. P.more a (marked-to (sym forgot-marks) a h);
    fresh = λ a h. elim (P.fresh a h) [
      | inl j ↦ inl (marked-to forgot-marks a j)
      | inr j ↦ inr (j.0, λ rs. needed-at (kept-joins (wider forgot_kept)) refl refl (j.1 rs))
    ];
  }

-- The way and then what it rests on.
pub traced : {w w₁ w₂ : List ℕ} {limit s t : ℕ} → Unfollowed w s t limit → Passed w w₁ limit s t → Swept w₁ w₂ limit → Traced w w₂ limit s t (tags s t)
traced {w} {w₁} {w₂} {limit} {s} {t} U P S = record {
  kept = within-trans P.kept S.kept;
  walked = λ N len n H l G. record {
    more = λ a h. S.more a (P.more a h);
    supported = λ a k h. go N len n H l G a k h (dec_lt a limit);
    linked = linked-more S.more P.linked;
  };
  needed = λ N len n H l a h. came N len n H l a h;
}
  where
    at : {N len n : ℕ} → Past N len w n → Past N len w₁ n
    at H = kept-past (wider P.kept) H

    came : (N len n : ℕ) → Past N len w n → limit ≤ n → (a : ℕ) → T (marked w₂ a) → T (marked w a) ⊎ Needed (records_in len w) (join_at w) (tags s t) a
    came N len n H l a h = elim (S.fresh N len n (at H) l a h) [
      | inl i ↦ elim (P.fresh a i) [ inl j ↦ inl j | inr j ↦ inr (j.1 (records_in len w)) ]
      | inr i ↦ elim (P.fresh i.1.by i.1.was) [
        | inl j ↦ absurd (U.none i.1.by i.1.older j)
        | inr j ↦ inr (needed-through (j.1 (records_in len w)) (join-at (kept-records (wider P.kept) len) (kept-joins (wider P.kept)) i.1.needed))
      ]
    ]

    go : (N len n : ℕ) → Past N len w n → limit ≤ n → Supported (records_in len w) (join_at w) (marked w) n → (a : ℕ) → a < n → T (marked w₂ a) → Dec (a < limit)
        → Grounds (records_in len w) (Linked (join_at w) (marked w₂) a) (join_at w a).u (join_at w a).v (join_at w a).why
    go N len n H l G a k h (yes i) = grounds-at (kept-records (wider P.kept) len) (kept-joins (wider P.kept)) (S.grounds N len n (at H) l a i h)
    go N len n H l G a k h (no i) = elim (S.fresh N len n (at H) l a h) [
      | inl j ↦ elim (P.fresh a j) [ inl f ↦ grounds-more (λ x y. linked-more (λ b g. S.more b (P.more b g))) (G a k f) | inr f ↦ absurd (omega (arith, f.0)) ]
      | inr j ↦ absurd (omega (arith, j.0))
    ]
