-- Each text spells forms and has no fault, or has a first fault.
use Rattle.std.proofs.Common.{◌≡◌, ◌⊎◌, inl, inr, ℕ, suc, nat_lt, Bool, true, false, cond, List, [], ◌∷◌, ◌++◌, length, Option, Some, None, refl, sym, ◌∙◌, ap, subst, append_assoc, arith}
use Rattle.std.proofs.lemmas.Option.{none-some}
use Rattle.pks_text.specs.Forms.{Word, Listing, Forms, no_forms, form, Mark, Said, Opens, Closes, forms_marks, SpellsFrom, Spells}
use Rattle.pks_text.specs.Faults.{opened, IsFirstFault}
use Rattle.pks_text.specs.declared.tree.FormFault.{FormFault}
use Rattle.pks_text.proofs.Runs.{RunsTo, stops_after, runs_after, spells_after, one_run, runs}

-- the tokens of forms
record OnTop (ms : List Mark) : Type 0 where
  parts : Forms
  split : ms ≡ forms_marks parts

-- the tokens of forms up to the end of a list, and behind it such tokens
record InList (Outside : List Mark → Type 0) (ms : List Mark) : Type 0 where
  parts : Forms
  close : ℕ
  rest : List Mark
  split : ms ≡ forms_marks parts ++ Closes close ∷ rest
  outside : Outside rest

-- within so many open lists the tokens are those of forms
abbrev Nests : List ℕ → List Mark → Type 0
Nests [] ms = OnTop ms
Nests (p ∷ ps) ms = InList (Nests ps) ms

nests_word : (w : List ℕ) (p : ℕ) (ps : List ℕ) (ms : List Mark) → Nests ps ms → Nests ps (Said w p ∷ ms)
nests_word w p [] ms n = record { parts = form (Word w p) n.parts; split = ap (λ (l : List Mark). Said w p ∷ l) n.split }
nests_word w p (q ∷ ps) ms n = record { parts = form (Word w p) n.parts; close = n.close; rest = n.rest; split = ap (λ (l : List Mark). Said w p ∷ l) n.split; outside = n.outside }

list_marks : (fs : Forms) (p close : ℕ) (ms : List Mark) → Opens p ∷ (forms_marks fs ++ Closes close ∷ ms) ≡ (Opens p ∷ (forms_marks fs ++ Closes close ∷ [])) ++ ms
list_marks fs p close ms = ap (λ (l : List Mark). Opens p ∷ l) (sym (append_assoc (forms_marks fs) (Closes close ∷ []) ms))

nests_list : (p : ℕ) (ps : List ℕ) (ms : List Mark) → InList (Nests ps) ms → Nests ps (Opens p ∷ ms)
nests_list p [] ms n =
    let o = n.outside in
    record {
      parts = form (Listing n.parts p n.close) o.parts;
      split = ap (λ (l : List Mark). Opens p ∷ l) (n.split ∙ ap (λ (l : List Mark). forms_marks n.parts ++ Closes n.close ∷ l) o.split) ∙ list_marks n.parts p n.close (forms_marks o.parts);
    }
nests_list p (q ∷ ps) ms n =
    let o = n.outside in
    record {
      parts = form (Listing n.parts p n.close) o.parts;
      close = o.close;
      rest = o.rest;
      split = ap (λ (l : List Mark). Opens p ∷ l) (n.split ∙ ap (λ (l : List Mark). forms_marks n.parts ++ Closes n.close ∷ l) o.split)
          ∙ list_marks n.parts p n.close (forms_marks o.parts ++ Closes o.close ∷ o.rest)
          ∙ sym (append_assoc (Opens p ∷ (forms_marks n.parts ++ Closes n.close ∷ [])) (forms_marks o.parts) (Closes o.close ∷ o.rest));
      outside = o.outside;
    }

-- ---- tokens that run to the end

nil_cons : {p : ℕ} {ps : List ℕ} → p ∷ ps ≡ [] → ⊥
nil_cons e = cc

none_some : {ps : List ℕ} → None ≡ Some ps → ⊥
none_some e = cc

some_is : {ps qs : List ℕ} → Some ps ≡ Some qs → ps ≡ qs
some_is e = cc

opens_is : (ps now : List ℕ) (p : ℕ) → opened ps (Opens p) ≡ Some now → p ∷ ps ≡ now
opens_is ps now p e = cond_is (nat_lt (length ps) 12) e
  where
    cond_is : (b : Bool) → cond b (Some (p ∷ ps)) None ≡ Some now → p ∷ ps ≡ now
    cond_is true e = some_is e
    cond_is false e = absurd (none_some e)

nested : (ms : List Mark) (ps text : List ℕ) (at : ℕ) → RunsTo ps text at ms None → Nests ps ms
nested [] [] text at r = record { parts = no_forms; split = refl }
nested [] (p ∷ ps) text at r = absurd (nil_cons r.1)
nested (Said w p ∷ ms) ps text at r = nests_word w p ps ms (subst (λ (qs : List ℕ). Nests qs ms) (sym (some_is r.3)) (nested ms r.1 r.0 _ r.4))
nested (Opens p ∷ ms) ps text at r = nests_list p ps ms (subst (λ (qs : List ℕ). Nests qs ms) (sym (opens_is ps r.1 p r.3)) (nested ms r.1 r.0 _ r.4))
nested (Closes end ∷ ms) [] text at r = absurd (none_some r.3)
nested (Closes end ∷ ms) (p ∷ ps) text at r =
    record { parts = no_forms; close = end; rest = ms; split = refl; outside = subst (λ (qs : List ℕ). Nests qs ms) (sym (some_is r.3)) (nested ms r.1 r.0 _ r.4) }

pub text_turns : (source : List ℕ) → ((fs : Forms) × Spells source fs × ((f : FormFault) → IsFirstFault source f → ⊥)) ⊎ ((f : FormFault) × IsFirstFault source f)
text_turns source = turns (runs (suc (length source)) [] source 0 (omega arith))
  where
    turns : (ms : List Mark) × (o : Option FormFault) × RunsTo [] source 0 ms o → ((fs : Forms) × Spells source fs × ((f : FormFault) → IsFirstFault source f → ⊥)) ⊎ ((f : FormFault) × IsFirstFault source f)
    turns (ms, None, r) =
        let nest = nested ms [] source 0 r in
        inl (nest.parts, subst (SpellsFrom source 0) nest.split (spells_after ms [] source 0 r), λ f first. none-some f (one_run ms first.0 [] source 0 None (Some f) r (runs_after first.0 [] source 0 f first.1)))
    turns (ms, Some f, r) = inr (f, (ms, stops_after ms [] source 0 f r))
