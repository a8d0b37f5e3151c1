-- The walk over the forms of a file of the first version finds what that version's own walk finds.
use Rattle.std.proofs.Common.{◌≡◌, ℕ, Bool, true, false, cond, ◌||◌, ◌&&◌, nat_lt, List, [], ◌∷◌, length, Option, Some, None, option_map, slice_get, codes, refl, sym, ap, ◌∙◌, true≢false}
use Rattle.pks_text.specs.Forms.{Form, Word, Listing, Forms, no_forms, form, place_of}
use Rattle.pks_reader_shape.specs.declared.grammar.Version.{Version}
use Rattle.pks_reader_shape.specs.declared.grammar.Version.TheVariants.{First, Second}
use Rattle.pks_reader_shape.specs.declared.grammar.Sort.{Sort}
use Rattle.pks_reader_shape.specs.declared.grammar.Sort.TheVariants.{Domain, Problem, World}
use Rattle.pks_reader_shape.specs.declared.grammar.Part.{Part}
use Rattle.pks_reader_shape.specs.declared.grammar.Part.TheVariants.{One, Maybe, Many}
use Rattle.pks_reader_shape.specs.Grammar as now_grammar
use Rattle.pks_reader_shape.specs.Grammar.{Lists, is_among, with_head}
use Rattle.pks_reader_shape.specs.Walk as now
use Rattle.pks_reader_shape.specs.Walk.{head_of, is_headed, is_fixed, count, first_of}
use Rattle.pks_reader_shape.specs.Files as now_files
use Rattle.pks_reader_shape.specs.Files.{or_else, is_list_of, stated, is_version, version_of, top_fault, rest_fault}
use Rattle.pks_laws_version1.specs.Walk as old
use Rattle.pks_laws_version1.proofs.Grammars.{same_lists}

-- ---- one form

same_production : (s : Sort) (head : List ℕ) → now_grammar.production First s head ≡ old.production s head
unfolding now_grammar.production
same_production s head = ap (λ (ls : Lists). with_head head ls.fixed (cond (is_among head ls.barred) None ls.other)) (same_lists s)

same_head : (s : Sort) → now_grammar.head_of_section First s ≡ old.head_of_section s
unfolding now_grammar.head_of_section
same_head s = ap (λ (ls : Lists). elim ls.fixed [ [] ↦ [] | p ∷ ps ↦ p.0 ]) (same_lists s)

same_sort : (ps : List Part) (f : Form) → now.sort_at First ps f ≡ old.sort_at ps f
same_sort [] f = refl
same_sort (One s ∷ ps) f = refl
same_sort (Many s ∷ ps) f = refl
same_sort (Maybe s ∷ ps) f = λ i. cond (is_headed (same_head s i) f) s (same_sort ps f i)

same_after : (ps : List Part) (f : Form) → now.parts_after First ps f ≡ old.parts_after ps f
same_after [] f = refl
same_after (One s ∷ ps) f = refl
same_after (Many s ∷ ps) f = refl
same_after (Maybe s ∷ ps) f = λ i. cond (is_headed (same_head s i) f) ps (same_after ps f i)

same_lack : (fs : Forms) (ps : List Part) → now.lacks First ps fs ≡ old.lacks ps fs
same_lack no_forms ps = refl
same_lack (form f fs) ps = same_lack fs (now.parts_after First ps f) ∙ ap (λ (qs : List Part). old.lacks qs fs) (same_after ps f)

same_count : (ps : List Part) (fs : Forms) → now.is_miscounted First ps fs ≡ old.is_miscounted ps fs
same_count ps fs = ap (λ (b : Bool). b || (is_fixed ps && nat_lt (length ps) (count fs))) (same_lack fs ps)

-- the fault of a list, by the parts that it may have
abbrev by_now : Forms → ℕ → Option (List Part) → Option ℕ
by_now parts at None = Some at
by_now parts at (Some ps) = cond (now.is_miscounted First ps parts) (Some at) (now.fault_among First ps parts)

abbrev by_old : Forms → ℕ → Option (List Part) → Option ℕ
by_old parts at None = Some at
by_old parts at (Some ps) = cond (old.is_miscounted ps parts) (Some at) (old.fault_among ps parts)

now_list : (s : Sort) (parts : Forms) (at end : ℕ) → now.fault_in First s (Listing parts at end) ≡ by_now parts at (now_grammar.production First s (head_of parts))
unfolding now.fault_in
now_list s parts at end = by_production (now_grammar.production First s (head_of parts))
  where
    by_production : (o : Option (List Part)) → elim o [ None ↦ Some at | Some ps ↦ cond (now.is_miscounted First ps parts) (Some at) (now.fault_among First ps parts) ] ≡ by_now parts at o
    by_production None = refl
    by_production (Some ps) = refl

old_list : (s : Sort) (parts : Forms) (at end : ℕ) → old.fault_in s (Listing parts at end) ≡ by_old parts at (old.production s (head_of parts))
unfolding old.fault_in
old_list s parts at end = by_production (old.production s (head_of parts))
  where
    by_production : (o : Option (List Part)) → elim o [ None ↦ Some at | Some ps ↦ cond (old.is_miscounted ps parts) (Some at) (old.fault_among ps parts) ] ≡ by_old parts at o
    by_production None = refl
    by_production (Some ps) = refl

same_word : (s : Sort) (text : List ℕ) (at : ℕ) → now.fault_in First s (Word text at) ≡ old.fault_in s (Word text at)
unfolding now.fault_in old.fault_in
same_word s text at = refl

same_nothing : (ps : List Part) → now.fault_among First ps no_forms ≡ old.fault_among ps no_forms
unfolding now.fault_among old.fault_among
same_nothing ps = refl

now_parts : (ps : List Part) (f : Form) (fs : Forms) → now.fault_among First ps (form f fs) ≡ first_of (now.fault_in First (now.sort_at First ps f) f) (now.fault_among First (now.parts_after First ps f) fs)
unfolding now.fault_among
now_parts ps f fs = refl

old_parts : (ps : List Part) (f : Form) (fs : Forms) → old.fault_among ps (form f fs) ≡ first_of (old.fault_in (old.sort_at ps f) f) (old.fault_among (old.parts_after ps f) fs)
unfolding old.fault_among
old_parts ps f fs = refl

same_by : (parts : Forms) (at : ℕ) → ((ps : List Part) → now.fault_among First ps parts ≡ old.fault_among ps parts) → (o : Option (List Part)) → by_now parts at o ≡ by_old parts at o
same_by parts at same None = refl
same_by parts at same (Some ps) = λ i. cond (same_count ps parts i) (Some at) (same ps i)

mutual
  pub same_fault : (f : Form) (s : Sort) → now.fault_in First s f ≡ old.fault_in s f
  same_fault (Word text at) s = same_word s text at
  same_fault (Listing parts at end) s =
      now_list s parts at end
      ∙ ap (by_now parts at) (same_production s (head_of parts))
      ∙ same_by parts at (same_faults parts) (old.production s (head_of parts))
      ∙ sym (old_list s parts at end)

  same_faults : (fs : Forms) (ps : List Part) → now.fault_among First ps fs ≡ old.fault_among ps fs
  same_faults no_forms ps = same_nothing ps
  same_faults (form f fs) ps =
      now_parts ps f fs
      ∙ (λ i. first_of (same_fault f (now.sort_at First ps f) i) (same_faults fs (now.parts_after First ps f) i))
      ∙ (λ i. first_of (old.fault_in (same_sort ps f i) f) (old.fault_among (same_after ps f i) fs))
      ∙ sym (old_parts ps f fs)

-- ---- whole files

same_version : (f : Form) (rest : List Form) → version_of (f ∷ rest) ≡ First → is_version f ≡ old.states_version f
unfolding stated
same_version f rest v = by_tests (old.states_version f) (is_list_of (codes "pks" ∷ codes "2" ∷ []) f) v
  where
    is_first : Version → Bool
    is_first First = true
    is_first Second = false

    by_tests : (a b : Bool) → elim (cond a (Some First) (cond b (Some Second) None)) [ None ↦ First | Some w ↦ w ] ≡ First → elim (cond a (Some First) (cond b (Some Second) None)) [ None ↦ false | Some w ↦ true ] ≡ a
    by_tests true b e = refl
    by_tests false true e = absurd (true≢false (sym (ap is_first e)))
    by_tests false false e = refl

same_walk : (code : ℕ) (s : Sort) (o : Option Form) → now_files.walk_fault code First s o ≡ old.walk_fault code s o
same_walk code s None = refl
same_walk code s (Some f) = ap (option_map (λ at. (at, code))) (same_fault f s)

walks : (code : ℕ) (v : Version) (s : Sort) (o : Option Form) → v ≡ First → now_files.walk_fault code v s o ≡ old.walk_fault code s o
walks code v s o e = ap (λ (w : Version). now_files.walk_fault code w s o) e ∙ same_walk code s o

pub same_shape : (end : ℕ) (fs : List Form) → version_of fs ≡ First → now_files.shape_fault end fs ≡ old.shape_fault end fs
unfolding now_files.shape_fault old.shape_fault
same_shape end [] v = refl
same_shape end (f ∷ rest) v =
    let fs : List Form = f ∷ rest in
    λ i. or_else (cond (same_version f rest v i) None (Some (place_of f, 120)))
    (or_else (top_fault 121 (is_headed (codes "domain")) end (slice_get fs 1))
    (or_else (top_fault 122 (is_headed (codes "problem")) end (slice_get fs 2))
    (or_else (rest_fault (slice_get fs 3) (slice_get fs 4))
    (or_else (walks 124 (version_of fs) Domain (slice_get fs 1) v i) (walks 124 (version_of fs) Problem (slice_get fs 2) v i)))))

pub same_world_shape : (fs : List Form) → version_of fs ≡ First → now_files.world_shape_fault fs ≡ old.world_shape_fault fs
same_world_shape fs v = walks 300 (version_of fs) World (slice_get fs 3) v
