-- One more thing is filed: its link is what its key's head was, and it becomes the head. Assumes nothing.
use Prim.Native.Nat.{ℕ, zero, suc, ◌+◌, ◌≤◌, ◌<◌}
use native.Mathlib.Omega.{arith}
use mathlib.Core.Path.{◌≡◌, refl, sym, ◌∙◌, ap, subst}
use mathlib.Core.Logic.{◌≢◌}
use mathlib.Core.Bool.{Bool}
use mathlib.Core.List.{List, [], ◌∷◌, ◌++◌}
use lib.Dec.{T, eqb, eqb→eq, eqb_refl}
use lib.ListN.{length, get_or, set, length-append, get_or-append}
use lib.Seq.{get_or-append_seam}
use Rattle.script_shelf.specs.Chain.{last_of}
use Rattle.script_shelf.proofs.Chains.{last-fail, last-hit}
use Rattle.script_shelf.specs.Columns.{up_to}
use Rattle.script_shelf.specs.Keys.{last_with, links, heads}
use Rattle.script_shelf.proofs.Columns.{up_same, up_more, up-put, length_up, get_or-up}

pub last-same : (f g : ℕ → Bool) (n : ℕ) → ((i : ℕ) → i < n → f i ≡ g i) → last_of f n ≡ last_of g n
last-same f g zero h = refl
last-same f g (suc n) h = rw (h n (omega arith), last-same f g n (λ i b. h i (omega arith)))

-- What stands below n does not know of a key behind it.
pub with-below : (ks : List ℕ) (k b n : ℕ) → n ≤ length ks → last_with (ks ++ k ∷ []) b n ≡ last_with ks b n
unfolding last_with
with-below ks k b n h = last-same _ _ n (λ i c. ap (λ x. eqb x b) (get_or-append ks (k ∷ []) 0 i (omega arith)))

long-one : (ks : List ℕ) (k : ℕ) → length (ks ++ k ∷ []) ≡ suc (length ks)
long-one ks k = length-append ks (k ∷ []) ∙ (let e : length ks + 1 ≡ suc (length ks) = omega arith in e)

pub links-push : (ks : List ℕ) (k : ℕ) → links (ks ++ k ∷ []) ≡ links ks ++ last_with ks k (length ks) ∷ []
unfolding links
links-push ks k = rw (long-one ks k, up_more, up_same (λ i. last_with (ks ++ k ∷ []) (get_or (ks ++ k ∷ []) i 0) i) (λ i. last_with ks (get_or ks i 0) i) (length ks) (λ i c. ap (λ x. last_with (ks ++ k ∷ []) x i) (get_or-append ks (k ∷ []) 0 i c) ∙ with-below ks k (get_or ks i 0) i (omega arith)))
    (ap (λ x. up_to (λ i. last_with ks (get_or ks i 0) i) (length ks) ++ x ∷ []) (ap (λ x. last_with (ks ++ k ∷ []) x (length ks)) (get_or-append_seam ks k [] 0) ∙ with-below ks k k (length ks) (omega arith)))

with-hit : (ks : List ℕ) (k : ℕ) → last_with (ks ++ k ∷ []) k (suc (length ks)) ≡ suc (length ks)
unfolding last_with
with-hit ks k = last-hit (λ i. eqb (get_or (ks ++ k ∷ []) i 0) k) (length ks) (subst (λ x. T (eqb x k)) (sym (get_or-append_seam ks k [] 0)) (eqb_refl k))

with-miss : (ks : List ℕ) (k b : ℕ) → b ≢ k → last_with (ks ++ k ∷ []) b (suc (length ks)) ≡ last_with (ks ++ k ∷ []) b (length ks)
unfolding last_with
with-miss ks k b d = last-fail (λ i. eqb (get_or (ks ++ k ∷ []) i 0) b) (length ks) (λ t. d (sym (sym (get_or-append_seam ks k [] 0) ∙ eqb→eq _ _ t)))

pub heads-push : (ks : List ℕ) (k : ℕ) → k < 509 → heads (ks ++ k ∷ []) ≡ set (heads ks) k (suc (length ks))
unfolding heads
heads-push ks k h = rw (long-one ks k) (up-put (λ b. last_with ks b (length ks)) (λ b. last_with (ks ++ k ∷ []) b (suc (length ks))) 509 k (suc (length ks)) h (with-hit ks k) (λ b c d. with-miss ks k b d ∙ with-below ks k b (length ks) (omega arith)))

pub length-heads : (ks : List ℕ) → length (heads ks) ≡ 509
unfolding heads
length-heads ks = length_up (λ b. last_with ks b (length ks)) 509

pub length-links : (ks : List ℕ) → length (links ks) ≡ length ks
unfolding links
length-links ks = length_up (λ k. last_with ks (get_or ks k 0) k) (length ks)

pub head_at : (ks : List ℕ) (b : ℕ) → b < 509 → get_or (heads ks) b 0 ≡ last_with ks b (length ks)
unfolding heads
head_at ks b h = get_or-up (λ b. last_with ks b (length ks)) 509 b h

pub link_at : (ks : List ℕ) (k : ℕ) → k < length ks → get_or (links ks) k 0 ≡ last_with ks (get_or ks k 0) k
unfolding links
link_at ks k h = get_or-up (λ k. last_with ks (get_or ks k 0) k) (length ks) k h
