-- The loop over the commands: what is left to read answers for the whole, and the fields so far are those of the commands so far. Assumes nothing.
use Prim.Native.Nat.{ℕ, zero, suc, ◌-◌, ◌≤◌, ◌<◌}
use native.Mathlib.Omega.{arith}
use mathlib.Core.Path.{◌≡◌, refl, sym, ◌∙◌, ap, subst}
use mathlib.Core.Logic.{◌≢◌}
use mathlib.Core.Bool.{Bool, true, false}
use mathlib.Core.List.Memᴰ
use mathlib.Core.List.{List, [], ◌∷◌, ◌++◌, map, append_assoc, append-nil, Memᴰ}
use lib.Dec.{eqb}
use lib.ListN.{length, take, drop}
use lib.Seq.{slice}
use Rattle.script_terms.specs.Terms.{Command, declare, equal, differ, check, arities_of}
use Rattle.script_terms.specs.Flat.{Part, symbol, applied, place, after, parts_from, record_of, Item, noted, new_items, own_of, items_from, parts_of}
use Rattle.script_terms.proofs.Tests.{eqb_yes, eqb_no, map_same}
use Rattle.script_terms.proofs.Lists.{Grown, grown-same, grown-on, grown-new, place_found}
use Rattle.script_terms.proofs.Known.{Known, node}
use Rattle.script_terms.proofs.Script.{after-grown}
use Rattle.script_meaning.specs.Tokens.{lex, is_word, core, reserved}
use Rattle.script_meaning.specs.Reading.{Got, fault, got, ◌>>=◌, either, Seen, Done, command, leave, commands_at, nothing, reading}
use Rattle.script_meaning.proofs.Accepted.{taking}
use Rattle.script_meaning.proofs.Matching.{part-is}
use Rattle.script_meaning.proofs.Said.{command-stepped}
use Rattle.script_meaning.proofs.Laws.{tag-grown, place-below}
use Rattle.script_shelf.specs.Shelf.{Standing}
use Rattle.script_shelf.specs.declared.Counts.{Counts}
use Rattle.script_shelf.specs.Refusals.{fault_number}
use Rattle.script_shelf.specs.declared.refusal.Refusal.{Refusal}
use Rattle.script_tokens.specs.declared.Lexeme.{Lexeme}
use Rattle.std.specs.Prelude.{Result, Ok, Err}
use Rattle.script_parts.specs.Meet.{new_parts}
use Rattle.script_fields.specs.Fields.{Begun}
use Rattle.script_join.specs.Promises.{Start}
use Rattle.script_words.specs.Words.{known, Read}
use Rattle.script_steps.specs.Steps.{Wanted}
use Rattle.script_steps.proofs.Outcomes.{then-refused, then-got, either-yes, either-no, as-of}
use Rattle.script_steps.proofs.Stepping.{wanted-stop, wanted-on, wanted-passed}
use Rattle.script_commands.specs.declared.Done.{Done as Over}
use Rattle.script_commands.specs.Commands.{CommandAsk, Made, Does}
use Rattle.script_read.specs.declared.Sort.{Sort}
use Rattle.script_read.specs.Script.{set_logic, declare_sort, LogicSet, SortSet, Left, CommandsAsk, Whole, CommandsRead, ScriptRead}

-- One command more behind those that there are.
items_more : (S : ℕ) (all l : List Part) (cs : List Command) (c : Command) → items_from S all l (cs ++ c ∷ []) ≡ items_from S all l cs ++ (new_items S all (parts_from l cs) c ++ own_of S all c)
items_more S all l [] c = ap (λ y. new_items S all l c ++ y) (append-nil (own_of S all c))
items_more S all l (b ∷ cs) c =
    rw (items_more S all (after l b) cs c)
    (sym (append_assoc (new_items S all l b) (own_of S all b ++ items_from S all (after l b) cs) (new_items S all (parts_from (after l b) cs) c ++ own_of S all c)
    ∙ ap (λ y. new_items S all l b ++ y) (append_assoc (own_of S all b) (items_from S all (after l b) cs) (new_items S all (parts_from (after l b) cs) c ++ own_of S all c))))

parts_more : (l : List Part) (cs : List Command) (c : Command) → parts_from l (cs ++ c ∷ []) ≡ after (parts_from l cs) c
parts_more l [] c = refl
parts_more l (b ∷ cs) c = parts_more (after l b) cs c

arities-more : (cs : List Command) (c : Command) → arities_of (cs ++ c ∷ []) ≡ arities_of cs ++ arities_of (c ∷ [])
arities-more [] c = refl
arities-more (declare n ∷ cs) c = ap (λ l. n ∷ l) (arities-more cs c)
arities-more (equal s t ∷ cs) c = arities-more cs c
arities-more (differ s t ∷ cs) c = arities-more cs c
arities-more (check ∷ cs) c = arities-more cs c

-- Fields of parts stay when more parts are met.
record-grown : {l l' : List Part} {x : Part} → Standing l → Grown l l' → Memᴰ x l → record_of 1001 l' x ≡ record_of 1001 l x
record-grown {l} {l'} {x} S g i =
    let s = S (place l x) (place-below l i) in
    let e : x ≡ applied s.left s.right = sym (place_found l x (symbol 0) i) ∙ s.is in
    let k : Known 1001 l (applied s.left s.right) = node (subst (λ y. Memᴰ y l) e i) s.left-known s.right-known in
    rw (e, tag-grown g s.left-known, tag-grown g s.right-known, tag-grown g k)

news-stay : {l l' l'' : List Part} → Standing l' → Grown l l' → Grown l' l'' → map (λ p. noted (record_of 1001 l'' p)) (drop (length l) l') ≡ new_parts l l'
news-stay {l} {l'} {l''} S g h =
    rw (grown-new g) (map_same (λ p. noted (record_of 1001 l'' p)) (λ p. noted (record_of 1001 l' p)) g.behind (λ x i. ap noted (record-grown {x = x} S h (rw g.is (Memᴰ.append_right l i)))))

-- While commands are read: cs are those so far.
pub record Running (s u w : List ℕ) (c : Counts) (start at : ℕ) : Type 0 where
  pub cs : List Command
  pub now : Seen
  pub fields : List Item
  pub holds : Start s w c now fields
  pub parts : now.parts ≡ parts_from [] cs
  pub arities : taking now.symbols ≡ arities_of cs
  pub items : (all : List Part) → Grown now.parts all → fields ≡ items_from 1001 all [] cs
  pub inside : at ≤ length s
  pub left : (g : Got (List Command)) → ((k : ℕ) → length s - at < k → commands_at k s u now at ≡ g) → (k : ℕ) → length s - start < k → commands_at k s u nothing start ≡ (g >>= λ ds. got (cs ++ ds))

bind-nil : (g : Got (List Command)) → g ≡ (g >>= λ ds. got ([] ++ ds))
unfolding ◌>>=◌
bind-nil (fault n p) = refl
bind-nil (got ds) = refl

pub run-start : {s u w : List ℕ} {c : Counts} {start : ℕ} → CommandsAsk s w c start → Running s u w c start start
run-start A = record { cs = []; now = nothing; fields = []; holds = A.begun; parts = refl; arities = refl; items = λ all g. refl; inside = A.inside; left = λ g h k l. h k l ∙ bind-nil g }

bind-more : (cs : List Command) (c : Command) (g : Got (List Command)) → ((g >>= λ ds. got (c ∷ ds)) >>= λ ds. got (cs ++ ds)) ≡ (g >>= λ ds. got ((cs ++ c ∷ []) ++ ds))
unfolding ◌>>=◌
bind-more cs c (fault n p) = refl
bind-more cs c (got ds) = ap got (sym (append_assoc cs (c ∷ []) ds))

fault-on : {A B : Type 0} {n p : ℕ} (f : A → Got B) → (fault n p >>= f) ≡ fault n p
unfolding ◌>>=◌
fault-on f = refl

got-on : {A B : Type 0} (a : A) (f : A → Got B) → (got a >>= f) ≡ f a
unfolding ◌>>=◌
got-on a f = refl

module _ {s u w : List ℕ} {c : Counts} {start at : ℕ} (R : Running s u w c start at) (start-in : start ≤ length s) where
  pub run-ask : {inner : ℕ} → length s ≤ 60000 → inner ≤ length s → CommandAsk s w c inner
  run-ask l h = record { inside = h; short = l; seen = R.now; fields = R.fields; start = R.holds }

  -- A refusal here is the whole's.
  stopped : {w' : List ℕ} {e : Refusal} → ((k : ℕ) → commands_at (suc k) s u R.now at ≡ fault (fault_number e.fault) e.place) → CommandsRead s u w' start (Err e)
  stopped {e = e} h = record { out = R.left (fault (fault_number e.fault) e.place) (some h) (suc (length s)) (omega arith) ∙ fault-on _ }
    where
      some : {g : Got (List Command)} → ((k : ℕ) → commands_at (suc k) s u R.now at ≡ g) → (k : ℕ) → length s - at < k → commands_at k s u R.now at ≡ g
      some h zero l = absurd (omega arith)
      some h (suc k) l = h k

  pub run-open : {e : Refusal} → Wanted s at 3 (Err e) → {w' : List ℕ} → CommandsRead s u w' start (Err e)
  run-open O = stopped (λ k. wanted-stop _ O)

  module _ {o : Lexeme} (O : Wanted s at 3 (Ok o)) {kind from to : ℕ} (L : Read s o.to kind from to) where
    exit-is : is_word "exit" (lex s o.to).token ≡ eqb kind 43
    unfolding known core reserved
    exit-is = L.says.word 36 (omega arith)

    -- exit.
    module _ (z : kind ≡ 43) where
      at-leave : (k : ℕ) → commands_at (suc k) s u R.now at ≡ leave s to
      at-leave k = wanted-on _ O ∙ either-yes (is_word "exit" (lex s o.to).token) _ _ (exit-is ∙ eqb_yes z) ∙ ap (leave s) (sym L.behind)

      pub run-stay : {e : Refusal} → Left s to (Err e) → {w' : List ℕ} → CommandsRead s u w' start (Err e)
      run-stay E = stopped (λ k. at-leave k ∙ E.out)

      pub run-leave : Left s to (Ok tt) → CommandsRead s u w start (Ok c)
      run-leave E = record {
        out = record {
          value = R.cs;
          is = R.left (got []) upto (suc (length s)) (omega arith) ∙ got-on [] _ ∙ ap got (append-nil R.cs);
          holds = record { seen = R.now; start = subst (λ f. Start s w c R.now f) (R.items (parts_of R.cs) (subst (λ l. Grown R.now.parts l) R.parts (grown-same R.now.parts))) R.holds; parts = R.parts; arities = R.arities };
        };
      }
        where
          upto : (k : ℕ) → length s - at < k → commands_at k s u R.now at ≡ got []
          upto zero l = absurd (omega arith)
          upto (suc k) l = at-leave k ∙ E.out.is ∙ ap got E.out.holds

    module _ (d : kind ≢ 43) where
      at-command : (k : ℕ) → commands_at (suc k) s u R.now at ≡ (command s u R.now o.to >>= λ r. commands_at k s u r.seen r.behind >>= λ cs. got (r.command ∷ cs))
      at-command k = wanted-on _ O ∙ either-no (is_word "exit" (lex s o.to).token) _ _ (exit-is ∙ eqb_no d)

      module _ {w' : List ℕ} where
        pub run-refused : {e : Refusal} → Does (λ t. command s u t o.to) s w w' c o.to (Err e) → CommandsRead s u w' start (Err e)
        run-refused D = stopped (λ k. at-command k ∙ then-refused (command s u R.now o.to) _ (D.does R.now R.fields R.holds))

        module _ {x : Over} (D : Does (λ t. command s u t o.to) s w w' c o.to (Ok x)) where
          on-with : (d : Done) → command s u R.now o.to ≡ got d → Made s w' R.now R.fields o.to d x → at < o.to → Running s u w' x.counts start x.at
          on-with d i m l =
              let S = command-stepped s u R.now o.to i in
              let g₁ : Grown R.now.parts d.seen.parts = subst (λ y. Grown R.now.parts y) (sym S.parts) (after-grown R.now.parts d.command) in
              record {
                cs = R.cs ++ d.command ∷ [];
                now = d.seen;
                fields = R.fields ++ (new_parts R.now.parts d.seen.parts ++ own_of 1001 d.seen.parts d.command);
                holds = m.start;
                parts = S.parts ∙ ap (λ y. after y d.command) R.parts ∙ sym (parts_more [] R.cs d.command);
                arities = S.arities ∙ ap (λ y. y ++ arities_of (d.command ∷ [])) R.arities ∙ sym (arities-more R.cs d.command);
                items = λ all g. items all g g₁ S.parts;
                inside = m.inside;
                left = λ g h k b. R.left (g >>= λ ds. got (d.command ∷ ds)) (step g h) k b ∙ bind-more R.cs d.command g;
              }
            where
              items : (all : List Part) → Grown d.seen.parts all → Grown R.now.parts d.seen.parts → d.seen.parts ≡ after R.now.parts d.command
                  → R.fields ++ (new_parts R.now.parts d.seen.parts ++ own_of 1001 d.seen.parts d.command) ≡ items_from 1001 all [] (R.cs ++ d.command ∷ [])
              items all g g₁ e =
                  let a : R.fields ≡ items_from 1001 all [] R.cs = R.items all (grown-on g₁ g) in
                  let b : new_parts R.now.parts d.seen.parts ≡ new_items 1001 all R.now.parts d.command
                  = sym (news-stay m.start.holding.stands g₁ g) ∙ ap (λ y. map (λ p. noted (record_of 1001 all p)) (drop (length R.now.parts) y)) e in
                  let f : own_of 1001 d.seen.parts d.command ≡ own_of 1001 all d.command = sym (m.stays all g) in
                  ap (λ y. y ++ (new_parts R.now.parts d.seen.parts ++ own_of 1001 d.seen.parts d.command)) a
                  ∙ ap (λ y. items_from 1001 all [] R.cs ++ (y ++ own_of 1001 d.seen.parts d.command)) b
                  ∙ ap (λ y. items_from 1001 all [] R.cs ++ (new_items 1001 all R.now.parts d.command ++ y)) f
                  ∙ ap (λ y. items_from 1001 all [] R.cs ++ (new_items 1001 all y d.command ++ own_of 1001 all d.command)) R.parts
                  ∙ sym (items_more 1001 all [] R.cs d.command)

              step : (g : Got (List Command)) → ((k : ℕ) → length s - x.at < k → commands_at k s u d.seen x.at ≡ g) → (k : ℕ) → length s - at < k → commands_at k s u R.now at ≡ (g >>= λ ds. got (d.command ∷ ds))
              step g h zero b = absurd (omega arith)
              step g h (suc k) b =
                  at-command k ∙ then-got (command s u R.now o.to) _ i ∙ ap (λ y. commands_at k s u d.seen y >>= λ cs. got (d.command ∷ cs)) m.behind
                  ∙ ap (λ y. y >>= λ cs. got (d.command ∷ cs)) (h k (omega (arith, m.on, m.inside)))

          pub run_on : Running s u w' x.counts start x.at
          run_on = let g = D.does R.now R.fields R.holds in on-with g.value g.is g.holds (wanted-passed O).on

          pub run-further : (at < x.at) × (x.at ≤ length s)
          run-further = let g = D.does R.now R.fields R.holds in (omega (arith, g.holds.on, (wanted-passed O).on), g.holds.inside)

-- The whole.
reading-is : (s : List ℕ) → reading s ≡ set_logic s (λ b. declare_sort s b (λ u b. commands_at (suc (length s)) s u nothing b))
unfolding reading
reading-is s = refl

pub script-logic : {s w : List ℕ} {e : Refusal} → LogicSet s (Err e) → ScriptRead s w (Err e)
script-logic {s} L = record { out = reading-is s ∙ L.set _ }

module _ {s : List ℕ} {at : ℕ} (L : LogicSet s (Ok at)) where
  logic-on : reading s ≡ declare_sort s at (λ u b. commands_at (suc (length s)) s u nothing b)
  logic-on = reading-is s ∙ L.set.0 _

  pub script-sort : {w : List ℕ} {e : Refusal} → SortSet s at (Err e) → ScriptRead s w (Err e)
  script-sort Z = record { out = logic-on ∙ Z.set (λ u b. commands_at (suc (length s)) s u nothing b) }

  -- The sort's name as the code takes it from the script.
  pub script-whole : {x : Sort} → SortSet s at (Ok x) → {w : List ℕ} (r : Result Counts Refusal) → CommandsRead s (take (x.last - x.first) (drop x.first s)) w x.at r → ScriptRead s w r
  script-whole {x} Z {w} r C =
      let e : commands_at (suc (length s)) s (take (x.last - x.first) (drop x.first s)) nothing x.at ≡ commands_at (suc (length s)) s (slice x.first x.last s) nothing x.at = ap (λ u. commands_at (suc (length s)) s u nothing x.at) (part-is s Z.set.order) in
      record { out = as-of (Whole s w) r (logic-on ∙ Z.set.onward (λ u b. commands_at (suc (length s)) s u nothing b) ∙ sym e) C.out }

pub commands-ask : {s w₀ w : List ℕ} {c : Counts} {at : ℕ} {x : Sort} → Begun w₀ w c → length s ≤ 60000 → SortSet s at (Ok x) → CommandsAsk s w c x.at
commands-ask {s} B l Z = record { short = l; inside = Z.set.inside; begun = record { holding = B.holding s; within = refl } }
