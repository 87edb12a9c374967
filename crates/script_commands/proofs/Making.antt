-- The readers of commands, by what the code has. Assumes nothing.
use Prim.Native.Nat.{ℕ, suc, ◌≤◌}
use native.Mathlib.Omega.{arith}
use mathlib.Core.Path.{◌≡◌, refl, sym, ◌∙◌, ap, subst}
use mathlib.Core.Logic.{◌≢◌}
use mathlib.Core.Bool.{true, false}
use mathlib.Core.List.{List, [], ◌∷◌, ◌++◌, append_assoc, append-nil}
use lib.Dec.{eqb}
use lib.ListN.{length}
use lib.Seq.{slice, drop-length}
use Rattle.std.specs.Prelude.{Result, Ok, Err}
use Rattle.meaning.specs.Following.{eq}
use Rattle.script_terms.specs.Terms.{Command, declare, equal, differ, check}
use Rattle.script_terms.specs.Flat.{Part, Item, noted, differing, checking, own_of}
use Rattle.script_terms.proofs.Tests.{eqb_yes, eqb_no}
use Rattle.script_terms.proofs.Lists.{Grown, grown-on}
use Rattle.script_terms.proofs.Known.{known_grown}
use Rattle.script_meaning.specs.Tokens.{lex, next, is_word, core, reserved}
use Rattle.script_meaning.specs.Reading.{Got, fault, got, want, Seen, fits, with_symbol, with_record, with_differ, with_check, Found, term, sort_is, sorts_at, sides, Done, done, declare_function, equality, negation, assertion, command}
use Rattle.script_meaning.proofs.Laws.{tag-grown}
use Rattle.script_shelf.specs.Refusals.{fault_number}
use Rattle.script_shelf.specs.Shelf.{Holding}
use Rattle.script_shelf.specs.declared.Counts.{Counts}
use Rattle.script_shelf.specs.declared.refusal.Fault.TheVariants.{OutsideSubset}
use Rattle.script_shelf.specs.declared.refusal.Refusal.{Refusal}
use Rattle.script_tokens.specs.declared.Lexeme.{Lexeme}
use Rattle.script_names.specs.Names.{Declares}
use Rattle.script_parts.specs.Meet.{new_parts}
use Rattle.script_fields.specs.Fields.{fitting, Notes}
use Rattle.script_fields.proofs.Fields.{fitting-is}
use Rattle.script_join.specs.Promises.{Start}
use Rattle.script_join.proofs.Laws.{news-on}
use Rattle.script_words.specs.Words.{known, Read}
use Rattle.script_term_read.specs.declared.Found.{Found as Answer}
use Rattle.script_steps.specs.declared.Count.{Count}
use Rattle.script_steps.specs.Steps.{Gave, Outcome, Passed, Wanted, SortRead, Sorted, NewNames}
use Rattle.script_steps.proofs.Outcomes.{refuse, then-refused, then-fault, then-gave, then-got, must-yes, must-no, either-yes, either-no, as-of, out-map}
use Rattle.script_steps.proofs.Stepping.{wanted-stop, wanted-on, wanted-passed}
use Rattle.script_commands.specs.Commands.{SideFound, SideRead, SidesFound, SidesRead, Made, Does, Finished}
use Rattle.script_commands.specs.declared.Done.{Done as Over}
use Rattle.script_commands.specs.declared.Pair.{Pair}

-- Both sides of an equality.
module _ {s w w₁ : List ℕ} {c : Counts} {at : ℕ} where
  pub sides_first : {e : Refusal} → SideRead s w w₁ c at (Err e) → SidesRead s w w₁ c at (Err e)
  sides_first F = record { reads = λ t fs S. then-refused (term s t at) _ (F.reads t fs S) }

  module _ {l : Answer} (F : SideRead s w w₁ c at (Ok l)) {w₂ : List ℕ} where
    second : (r : Result Answer Refusal) → SideRead s w₁ w₂ l.counts l.at r → {t : Seen} {fs : List Item} (a : Found) (x : SideFound s w₁ t fs at a l) → Outcome (term s a.seen a.behind) (SideFound s w₂ a.seen (fs ++ new_parts t.parts a.seen.parts) l.at) r
    second r G a x = rw x.behind (G.reads a.seen _ x.start)

    pub sides-second : {e : Refusal} → SideRead s w₁ w₂ l.counts l.at (Err e) → SidesRead s w w₂ c at (Err e)
    sides-second G = record { reads = λ t fs S. then-fault (term s t at) _ (F.reads t fs S) (λ a x. then-refused (term s a.seen a.behind) _ (second _ G a x)) }

    module _ {r : Answer} (G : SideRead s w₁ w₂ l.counts l.at (Ok r)) where
      pub sides-third : {e : Refusal} → Wanted s r.at 4 (Err e) → SidesRead s w w₂ c at (Err e)
      sides-third W = record { reads = λ t fs S. then-fault (term s t at) _ (F.reads t fs S) (λ a x. then-fault (term s a.seen a.behind) _ (second _ G a x) (λ b y. rw y.behind (wanted-stop _ W))) }

      pub sides-good : {k : Lexeme} → Wanted s r.at 4 (Ok k) → SidesRead s w w₂ c at (Ok (record { left = l.number; right = r.number; at = k.to; counts = r.counts }))
      sides-good {k} W = record {
        reads = λ t fs S.
            let Q = SidesFound s w₂ t fs at in
            let o : Result Pair Refusal = Ok (record { left = l.number; right = r.number; at = k.to; counts = r.counts }) in
            then-gave (term s t at) _ Q o (F.reads t fs S)
            (λ a x. then-gave (term s a.seen a.behind) _ Q o (second _ G a x)
            (λ b y. rw y.behind (as-of Q o (wanted-on _ W)
            (record { value = record { left = a.term; right = b.term; seen = b.seen; behind = k.to }; is = refl; holds = both t fs a x b y (wanted-passed W) }))));
      }
        where
          both : (t : Seen) (fs : List Item) (a : Found) (x : SideFound s w₁ t fs at a l) (b : Found) (y : SideFound s w₂ a.seen (fs ++ new_parts t.parts a.seen.parts) l.at b r) → Passed s r.at k.to k
              → SidesFound s w₂ t fs at (record { left = a.term; right = b.term; seen = b.seen; behind = k.to }) (record { left = l.number; right = r.number; at = k.to; counts = r.counts })
          both t fs a x b y v =
              let z : (fs ++ new_parts t.parts a.seen.parts) ++ new_parts a.seen.parts b.seen.parts ≡ fs ++ new_parts t.parts b.seen.parts
              = append_assoc fs (new_parts t.parts a.seen.parts) (new_parts a.seen.parts b.seen.parts) ∙ ap (λ l. fs ++ l) (sym (news-on x.start.holding.stands x.grown y.grown)) in
              record {
                start = subst (λ f. Start s w₂ r.counts b.seen f) z y.start;
                grown = grown-on x.grown y.grown;
                left_is = x.number_is ∙ sym (tag-grown y.grown x.known);
                right_is = y.number_is;
                left-known = known_grown y.grown x.known;
                right-known = y.known;
                behind = refl;
                on = omega (arith, x.on, y.on, v.on);
                inside = v.inside;
              }

-- The end of a command: the limits are tested at its closing parenthesis.
finished-out : (x : Command) (t : Seen) {s w' : List ℕ} {t₀ : Seen} {fs : List Item} {at₀ at : ℕ} {k : Lexeme} {c : Counts} (r : Result Over Refusal) → Wanted s at 4 (Ok k) → Finished c k r → fitting c ≡ fits t
    → (Passed s at k.to k → fits t ≡ true → Made s w' t₀ fs at₀ (record { command = x; seen = t; behind = k.to }) (record { at = k.to; counts = c })) → Outcome (done x t s at) (Made s w' t₀ fs at₀) r
finished-out x t {s} {at = at} (Err e) W F g h =
    wanted-on _ W ∙ must-no (fits t) 16 (lex s at).from _ (sym g ∙ F.0) ∙ ap (fault 16) (sym (wanted-passed W).place_is) ∙ ap (λ (e : Refusal). fault (fault_number e.fault) e.place) (sym F.1)
finished-out x t {s} {w'} {t₀} {fs} {at₀} {at} {k} (Ok d) W F g h =
    record {
      value = record { command = x; seen = t; behind = k.to };
      is = wanted-on _ W ∙ must-yes (fits t) 16 (lex s at).from _ (sym g ∙ F.0);
      holds = subst (λ d. Made s w' t₀ fs at₀ (record { command = x; seen = t; behind = k.to }) d) (sym F.1) (h (wanted-passed W) (sym g ∙ F.0));
    }

-- A command that notes a field of its own.
made-noted : {s w' : List ℕ} {c' : Counts} {t : Seen} {fs : List Item} {at to : ℕ} (d : Done) (i : Item) → Holding s w' c' d.seen ((fs ++ new_parts t.parts d.seen.parts) ++ i ∷ []) → fits d.seen ≡ true
    → i ∷ [] ≡ own_of 1001 d.seen.parts d.command → ((all : List Part) → Grown d.seen.parts all → own_of 1001 all d.command ≡ own_of 1001 d.seen.parts d.command) → d.behind ≡ to → at ≤ to → to ≤ length s → Made s w' t fs at d (record { at = to; counts = c' })
made-noted {s} {w'} {c'} {t} {fs} d i H f e y b o l = record {
  start = subst (λ z. Start s w' c' d.seen z) (append_assoc fs (new_parts t.parts d.seen.parts) (i ∷ []) ∙ ap (λ z. fs ++ (new_parts t.parts d.seen.parts ++ z)) e) (record { holding = H; within = f });
  stays = y;
  behind = b;
  on = o;
  inside = l;
}

no-news : (l : List Part) → new_parts l l ≡ []
no-news l = rw (drop-length l)

-- An equality.
module _ {s w w₁ : List ℕ} {c : Counts} {at : ℕ} where
  pub equal-sides : {e : Refusal} → SidesRead s w w₁ c at (Err e) → Does (λ t. equality s t at) s w w₁ c at (Err e)
  equal-sides E = record { does = λ t fs S. then-refused (sides s t at) _ (E.reads t fs S) }

  module _ {p : Pair} (E : SidesRead s w w₁ c at (Ok p)) where
    pub equal-close : {e : Refusal} → Wanted s p.at 4 (Err e) → Does (λ t. equality s t at) s w w₁ c at (Err e)
    equal-close W = record { does = λ t fs S. then-fault (sides s t at) _ (E.reads t fs S) (λ a x. rw x.behind (wanted-stop _ W)) }

    pub equal-good : {k : Lexeme} → Wanted s p.at 4 (Ok k) → {w₂ : List ℕ} {c₂ : Counts} (r : Result Over Refusal) → Notes w₁ w₂ p.counts c₂ (noted (eq p.left p.right)) with_record → Finished c₂ k r → Does (λ t. equality s t at) s w w₂ c at r
    equal-good W {w₂} r N D = record {
      does = λ t fs S.
          then-gave (sides s t at) _ (Made s w₂ t fs at) r (E.reads t fs S)
          (λ a x.
          let H = N.noted s a.seen _ x.start.holding in
          rw x.behind (finished-out (equal a.left a.right) (with_record a.seen) r W D (fitting-is H.holding)
          (λ v b. made-noted _ (noted (eq p.left p.right)) H.holding b (ap (λ i. i ∷ []) (rw (x.left_is, x.right_is) refl)) (λ all g. rw (tag-grown g x.left-known, tag-grown g x.right-known)) refl (omega (arith, x.on, v.on)) v.inside)));
    }

-- A negated one.
module _ {s w : List ℕ} {c : Counts} {at : ℕ} where
  pub negate-open : {e : Refusal} → Wanted s at 3 (Err e) → Does (λ t. negation s t at) s w w c at (Err e)
  negate-open O = record { does = λ t fs S. wanted-stop _ O }

  module _ {o : Lexeme} (O : Wanted s at 3 (Ok o)) where
    pub negate_word : {e : Refusal} → Wanted s o.to 14 (Err e) → Does (λ t. negation s t at) s w w c at (Err e)
    unfolding known core reserved
    negate_word Q = record { does = λ t fs S. wanted-on _ O ∙ wanted-stop _ Q }

    module _ {q : Lexeme} (Q : Wanted s o.to 14 (Ok q)) {w₁ : List ℕ} where
      pub negate-sides : {e : Refusal} → SidesRead s w w₁ c q.to (Err e) → Does (λ t. negation s t at) s w w₁ c at (Err e)
      unfolding known core reserved
      negate-sides E = record { does = λ t fs S. wanted-on _ O ∙ wanted-on _ Q ∙ then-refused (sides s t q.to) _ (E.reads t fs S) }

      module _ {p : Pair} (E : SidesRead s w w₁ c q.to (Ok p)) where
        pub negate-inner : {e : Refusal} → Wanted s p.at 4 (Err e) → Does (λ t. negation s t at) s w w₁ c at (Err e)
        unfolding known core reserved
        negate-inner I = record { does = λ t fs S. wanted-on _ O ∙ wanted-on _ Q ∙ then-fault (sides s t q.to) _ (E.reads t fs S) (λ a x. rw x.behind (wanted-stop _ I)) }

        module _ {i : Lexeme} (I : Wanted s p.at 4 (Ok i)) where
          pub negate-close : {e : Refusal} → Wanted s i.to 4 (Err e) → Does (λ t. negation s t at) s w w₁ c at (Err e)
          unfolding known core reserved
          negate-close C = record { does = λ t fs S. wanted-on _ O ∙ wanted-on _ Q ∙ then-fault (sides s t q.to) _ (E.reads t fs S) (λ a x. rw x.behind (wanted-on _ I ∙ wanted-stop _ C)) }

          pub negate_good : {k : Lexeme} → Wanted s i.to 4 (Ok k) → {w₂ : List ℕ} {c₂ : Counts} (r : Result Over Refusal) → Notes w₁ w₂ p.counts c₂ (differing p.left p.right) with_differ → Finished c₂ k r → Does (λ t. negation s t at) s w w₂ c at r
          unfolding known core reserved
          negate_good {k} C {w₂} r N D = record {
            does = λ t fs S.
                as-of (Made s w₂ t fs at) r (wanted-on _ O ∙ wanted-on _ Q) (then-gave (sides s t q.to) _ (Made s w₂ t fs at) r (E.reads t fs S)
                (λ a x.
                let H = N.noted s a.seen _ x.start.holding in
                let o₁ = wanted-passed O in
                let o₂ = wanted-passed Q in
                let o₃ = wanted-passed I in
                rw x.behind (as-of (Made s w₂ t fs at) r (wanted-on _ I) (finished-out (differ a.left a.right) (with_differ a.seen) r C D (fitting-is H.holding)
                (λ v b. made-noted _ (differing p.left p.right) H.holding b (ap (λ i. i ∷ []) (rw (x.left_is, x.right_is) refl)) (λ all g. rw (tag-grown g x.left-known, tag-grown g x.right-known)) refl (omega (arith, o₁.on, o₂.on, x.on, o₃.on, v.on)) v.inside)))));
          }

-- The word behind the opening parenthesis of an assertion.
module _ {s : List ℕ} {inner kind from to : ℕ} (L : Read s inner kind from to) where
  equals-is : is_word "=" (lex s inner).token ≡ eqb kind 14
  unfolding known core reserved
  equals-is = L.says.word 7 (omega arith)

  not_is : is_word "not" (lex s inner).token ≡ eqb kind 9
  unfolding known core reserved
  not_is = L.says.word 2 (omega arith)

  far : {at : ℕ} {o : Lexeme} → Passed s at inner o → o.to ≡ inner → kind ≢ 0 → at ≤ to
  far v e d = let h = L.says.some d in omega (arith, v.on, L.on)

-- assert.
does-from : (s w' : List ℕ) (t : Seen) (fs : List Item) {at at' : ℕ} (g : Got Done) (r : Result Over Refusal) → at ≤ at' → Outcome g (Made s w' t fs at') r → Outcome g (Made s w' t fs at) r
does-from s w' t fs {at} {at'} g r h o =
    out-map g (Made s w' t fs at') (Made s w' t fs at) r (λ d x m. record { start = m.start; stays = m.stays; behind = m.behind; on = omega (arith, m.on); inside = m.inside }) o

module _ {s w : List ℕ} {c : Counts} {at : ℕ} where
  pub assert-open : {e : Refusal} → Wanted s at 3 (Err e) → Does (λ t. assertion s t at) s w w c at (Err e)
  assert-open O = record { does = λ t fs S. wanted-stop _ O }

  module _ {o : Lexeme} (O : Wanted s at 3 (Ok o)) {kind from to : ℕ} (L : Read s o.to kind from to) where
    pub assert-equal : {w' : List ℕ} (r : Result Over Refusal) → kind ≡ 14 → Does (λ t. equality s t to) s w w' c to r → Does (λ t. assertion s t at) s w w' c at r
    assert-equal {w'} r k D = record {
      does = λ t fs S.
          as-of (Made s w' t fs at) r (wanted-on _ O ∙ either-yes (is_word "=" (lex s o.to).token) _ _ (equals-is L ∙ eqb_yes k))
          (rw (sym L.behind) (does-from s _ t fs (equality s t to) r (far L (wanted-passed O) refl (λ z. omega arith)) (D.does t fs S)));
    }

    pub assert-not : {w' : List ℕ} (r : Result Over Refusal) → kind ≡ 9 → Does (λ t. negation s t to) s w w' c to r → Does (λ t. assertion s t at) s w w' c at r
    assert-not {w'} r k D = record {
      does = λ t fs S.
          as-of (Made s w' t fs at) r
          (wanted-on _ O ∙ either-no (is_word "=" (lex s o.to).token) _ _ (equals-is L ∙ eqb_no (let d : kind ≡ 14 → ⊥ = λ z. omega arith in d))
          ∙ then-got (want (is_word "not") s o.to) _ (must-yes (is_word "not" (lex s o.to).token) 14 (lex s o.to).from _ (not_is L ∙ eqb_yes k)))
          (rw (sym L.behind) (does-from s _ t fs (negation s t to) r (far L (wanted-passed O) refl (λ z. omega arith)) (D.does t fs S)));
    }

    pub assert-other : kind ≢ 14 → kind ≢ 9 → Does (λ t. assertion s t at) s w w c at (refuse OutsideSubset from)
    assert-other d d' = record {
      does = λ t fs S.
          wanted-on _ O ∙ either-no (is_word "=" (lex s o.to).token) _ _ (equals-is L ∙ eqb_no d)
          ∙ then-refused (want (is_word "not") s o.to) _ (must-no (is_word "not" (lex s o.to).token) 14 (lex s o.to).from _ (not_is L ∙ eqb_no d')) ∙ ap (fault 14) (sym L.from_is);
    }

-- check-sat.
module _ {s w : List ℕ} {c : Counts} {at : ℕ} where
  pub check-close : {e : Refusal} → Wanted s at 4 (Err e) → Does (λ t. done check (with_check t) s at) s w w c at (Err e)
  check-close C = record { does = λ t fs S. wanted-stop _ C }

  pub check-good : {k : Lexeme} → Wanted s at 4 (Ok k) → {w' : List ℕ} {c₁ : Counts} (r : Result Over Refusal) → Notes w w' c c₁ checking with_check → Finished c₁ k r → Does (λ t. done check (with_check t) s at) s w w' c at r
  check-good C {w'} {c₁} r N D = record {
    does = λ t fs S.
        let H = N.noted s t fs S.holding in
        finished-out check (with_check t) r C D (fitting-is H.holding)
        (λ v b. made-noted _ checking (subst (λ l. Holding s w' c₁ (with_check t) (l ++ checking ∷ [])) (sym (ap (λ l. fs ++ l) (no-news t.parts) ∙ append-nil fs)) H.holding) b refl (λ all g. refl) refl (omega (arith, v.on)) v.inside);
  }

-- declare-fun.
module _ (u : List ℕ) {s w : List ℕ} {c : Counts} {at : ℕ} where
  pub declare-name : {e : Refusal} → NewNames s w c at (Err e) → Does (λ t. declare_function s u t at) s w w c at (Err e)
  declare-name X = record { does = λ t fs S. then-refused _ _ (X.names t fs S.holding) }

  module _ {x : Lexeme} (X : NewNames s w c at (Ok x)) where
    pub declare-open : {e : Refusal} → Wanted s x.to 3 (Err e) → Does (λ t. declare_function s u t at) s w w c at (Err e)
    declare-open O = record { does = λ t fs S. then-fault _ _ (X.names t fs S.holding) (λ a y. rw (sym y.behind) (wanted-stop _ O)) }

    module _ {o : Lexeme} (O : Wanted s x.to 3 (Ok o)) where
      pub declare-sorts : {e : Refusal} → Sorted s u o.to (Err e) → Does (λ t. declare_function s u t at) s w w c at (Err e)
      declare-sorts K = record {
        does = λ t fs S. then-fault _ _ (X.names t fs S.holding) (λ a y. rw (sym y.behind) (wanted-on _ O ∙ then-refused (sorts_at (suc (length s)) s u 0 o.to) _ (K.reads (suc (length s)) (omega arith))));
      }

      module _ {n : Count} (K : Sorted s u o.to (Ok n)) where
        pub declare-sort : {e : Refusal} → SortRead s u n.at (Err e) → Does (λ t. declare_function s u t at) s w w c at (Err e)
        declare-sort R = record {
          does = λ t fs S.
              then-fault _ _ (X.names t fs S.holding) (λ a y. rw (sym y.behind) (wanted-on _ O
              ∙ then-fault (sorts_at (suc (length s)) s u 0 o.to) _ (K.reads (suc (length s)) (omega arith)) (λ k z. rw (sym z.behind) (then-refused (sort_is u (lex s n.at)) _ R.out))));
        }

        module _ {g : Lexeme} (R : SortRead s u n.at (Ok g)) where
          pub declare-close : {e : Refusal} → Wanted s g.to 4 (Err e) → Does (λ t. declare_function s u t at) s w w c at (Err e)
          declare-close C = record {
            does = λ t fs S.
                then-fault _ _ (X.names t fs S.holding) (λ a y. rw (sym y.behind) (wanted-on _ O
                ∙ then-fault (sorts_at (suc (length s)) s u 0 o.to) _ (K.reads (suc (length s)) (omega arith)) (λ k z. rw (sym z.behind) (then-fault (sort_is u (lex s n.at)) _ R.out
                (λ b h. let q : b ≡ g.to = h.is in rw q (wanted-stop _ C))))));
          }

          pub declare-good : {k : Lexeme} → Wanted s g.to 4 (Ok k) → {w' : List ℕ} {c₁ : Counts} (r : Result Over Refusal) → Declares s w w' c c₁ x.from x.to n.number → Finished c₁ k r → Does (λ t. declare_function s u t at) s w w' c at r
          declare-good {k} C {w'} {c₁} r N D = record {
            does = λ t fs S.
                let Q = Made s w' t fs at in
                then-gave _ _ Q r (X.names t fs S.holding) (λ a y. rw (sym y.behind) (as-of Q r (wanted-on _ O)
                (then-gave (sorts_at (suc (length s)) s u 0 o.to) _ Q r (K.reads (suc (length s)) (omega arith)) (λ m z. rw (sym z.behind) (then-gave (sort_is u (lex s n.at)) _ Q r R.out
                (λ b h.
                let q : b ≡ g.to = h.is in
                let H = N.declared t fs S.holding y.unused in
                let v = wanted-passed O in
                rw (q, y.text, sym z.number_is) (finished-out (declare n.number) (with_symbol (record { name = slice x.from x.to s; takes = n.number }) t) r C D (fitting-is H.holding)
                (λ i j. made t fs H.holding j (omega (arith, y.on, v.on, z.on, h.on, i.on)) i.inside))))))));
          }
            where
              made : (t : Seen) (fs : List Item) → Holding s w' c₁ (with_symbol (record { name = slice x.from x.to s; takes = n.number }) t) fs → fits (with_symbol (record { name = slice x.from x.to s; takes = n.number }) t) ≡ true → at ≤ k.to → k.to ≤ length s
                  → Made s w' t fs at (record { command = declare n.number; seen = with_symbol (record { name = slice x.from x.to s; takes = n.number }) t; behind = k.to }) (record { at = k.to; counts = c₁ })
              made t fs H f o l = record {
                start = subst (λ z. Start s w' c₁ (with_symbol (record { name = slice x.from x.to s; takes = n.number }) t) z) (sym (ap (λ l. fs ++ (l ++ [])) (no-news t.parts) ∙ append-nil fs)) (record { holding = H; within = f });
                stays = λ all g. refl;
                behind = refl;
                on = o;
                inside = l;
              }

-- A command by its name.
module _ {s : List ℕ} {at kind from to : ℕ} (L : Read s at kind from to) where
  declares-is : is_word "declare-fun" (lex s at).token ≡ eqb kind 36
  unfolding known core reserved
  declares-is = L.says.word 29 (omega arith)

  asserts-is : is_word "assert" (lex s at).token ≡ eqb kind 30
  unfolding known core reserved
  asserts-is = L.says.word 23 (omega arith)

  checks-is : is_word "check-sat" (lex s at).token ≡ eqb kind 31
  unfolding known core reserved
  checks-is = L.says.word 24 (omega arith)

  onward : kind ≢ 0 → at ≤ to
  onward d = let h = L.says.some d in omega (arith, L.on)

  pub command-declare : (u : List ℕ) {w w' : List ℕ} {c : Counts} (r : Result Over Refusal) → kind ≡ 36 → Does (λ t. declare_function s u t to) s w w' c to r → Does (λ t. command s u t at) s w w' c at r
  command-declare u {w' = w'} r k D = record {
    does = λ t fs S. as-of (Made s w' t fs at) r (either-yes (is_word "declare-fun" (lex s at).token) _ _ (declares-is ∙ eqb_yes k)) (rw (sym L.behind) (does-from s _ t fs (declare_function s u t to) r (onward (λ z. omega arith)) (D.does t fs S)));
  }

  pub command-assert : (u : List ℕ) {w w' : List ℕ} {c : Counts} (r : Result Over Refusal) → kind ≡ 30 → Does (λ t. assertion s t to) s w w' c to r → Does (λ t. command s u t at) s w w' c at r
  command-assert u {w' = w'} r k D = record {
    does = λ t fs S.
        as-of (Made s w' t fs at) r
        (either-no (is_word "declare-fun" (lex s at).token) _ _ (declares-is ∙ eqb_no (let d : kind ≡ 36 → ⊥ = λ z. omega arith in d)) ∙ either-yes (is_word "assert" (lex s at).token) _ _ (asserts-is ∙ eqb_yes k))
        (rw (sym L.behind) (does-from s _ t fs (assertion s t to) r (onward (λ z. omega arith)) (D.does t fs S)));
  }

  pub command-check : (u : List ℕ) {w w' : List ℕ} {c : Counts} (r : Result Over Refusal) → kind ≡ 31 → Does (λ t. done check (with_check t) s to) s w w' c to r → Does (λ t. command s u t at) s w w' c at r
  command-check u {w' = w'} r k D = record {
    does = λ t fs S.
        as-of (Made s w' t fs at) r
        (either-no (is_word "declare-fun" (lex s at).token) _ _ (declares-is ∙ eqb_no (let d : kind ≡ 36 → ⊥ = λ z. omega arith in d))
        ∙ either-no (is_word "assert" (lex s at).token) _ _ (asserts-is ∙ eqb_no (let d : kind ≡ 30 → ⊥ = λ z. omega arith in d)) ∙ must-yes (is_word "check-sat" (lex s at).token) 14 (lex s at).from _ (checks-is ∙ eqb_yes k))
        (rw (sym L.behind) (does-from s _ t fs (done check (with_check t) s to) r (onward (λ z. omega arith)) (D.does t fs S)));
  }

  pub command-other : (u : List ℕ) {w : List ℕ} {c : Counts} → kind ≢ 36 → kind ≢ 30 → kind ≢ 31 → Does (λ t. command s u t at) s w w c at (refuse OutsideSubset from)
  command-other u d d' d'' = record {
    does = λ t fs S.
        either-no (is_word "declare-fun" (lex s at).token) _ _ (declares-is ∙ eqb_no d) ∙ either-no (is_word "assert" (lex s at).token) _ _ (asserts-is ∙ eqb_no d')
        ∙ must-no (is_word "check-sat" (lex s at).token) 14 (lex s at).from _ (checks-is ∙ eqb_no d'') ∙ ap (fault 14) (sym L.from_is);
  }
