-- The lines of an input: its file and its answers.
use Rattle.std.proofs.Common.{◌≡◌, ◌<◌, ◌+◌, ℕ, suc, inl, inr, Bool, true, false, cond, ◌&&◌, List, [], ◌∷◌, ◌++◌, length, Option, Some, None, option_map, refl, sym, ap, ◌∙◌, subst, true≢false, arith}
use Rattle.std.specs.Prelude.{nat_eq}
use Rattle.std.specs.List.{filter, flat_map}
use Rattle.std.specs.Option.{option_map_or}
use Rattle.std.proofs.lemmas.Bool.{eqb-true}
use Rattle.pks_terms.specs.Printed.{Text, line}
use Rattle.pks_terms.specs.Jobs.{same_text}
use Rattle.pks_terms.specs.Talk.{with_byte, lines_of, cut, file_text, answers_in, line_feeds, stop_line}
use Rattle.pks_agent.specs.Hearing.{LeavesEnd}
use Rattle.pks_agent.specs.Streams.{before, parts_from, parts_at_stop, has_no_feed}

-- ---- the file and what stands behind it

abbrev pub or_none : Option Text → Text
or_none None = []
or_none (Some bytes) = bytes

-- as `cut`, where the first line has begun and isn't a full stop
abbrev cut_later : List Text → Option (List Text × List Text)
cut_later [] = None
cut_later (text ∷ rest) = option_map (λ parts. (text ∷ parts.0, parts.1)) (cut rest)

-- the lines and the bytes tell of the same parts
record AreSame (bytes : Text) (lines : Option (List Text × List Text)) (parts : Text × Option Text) : Type 0 where
  file : option_map_or (λ l. flat_map line l.0) lines bytes ≡ parts.0
  behind : option_map_or (λ l. l.1) lines [] ≡ lines_of (or_none parts.1)
  stop : option_map_or (λ l. length l.0) lines (line_feeds bytes) ≡ line_feeds parts.0

fed : (bytes : Text) (lines : Option (List Text × List Text)) (parts : Text × Option Text) → AreSame bytes lines parts → AreSame (10 ∷ bytes) (option_map (λ l. ([] ∷ l.0, l.1)) lines) (before (10 ∷ []) parts)
fed bytes None parts same = record { file = ap (λ x. 10 ∷ x) same.file; behind = same.behind; stop = ap suc same.stop }
fed bytes (Some l) parts same = record { file = ap (λ x. 10 ∷ x) same.file; behind = same.behind; stop = ap suc same.stop }

feeds_past : (b : ℕ) (bytes : Text) → nat_eq b 10 ≡ false → line_feeds (b ∷ bytes) ≡ line_feeds bytes
feeds_past b bytes e = ap (λ (t : Bool). length (cond t (b ∷ filter (λ c. nat_eq c 10) bytes) (filter (λ c. nat_eq c 10) bytes))) e

grown : (b : ℕ) → nat_eq b 10 ≡ false → (bytes : Text) (lines : List Text) (parts : Text × Option Text) → AreSame bytes (cut_later lines) parts → AreSame (b ∷ bytes) (cut_later (with_byte b lines)) (before (b ∷ []) parts)
grown b e bytes [] parts same = record { file = ap (λ x. b ∷ x) same.file; behind = same.behind; stop = feeds_past b bytes e ∙ same.stop ∙ sym (feeds_past b parts.0 e) }
grown b e bytes (first ∷ rest) parts same = by_rest (cut rest) same
  where
    by_rest : (o : Option (List Text × List Text)) → AreSame bytes (option_map (λ l. (first ∷ l.0, l.1)) o) parts → AreSame (b ∷ bytes) (option_map (λ l. ((b ∷ first) ∷ l.0, l.1)) o) (before (b ∷ []) parts)
    by_rest None same = record { file = ap (λ x. b ∷ x) same.file; behind = same.behind; stop = feeds_past b bytes e ∙ same.stop ∙ sym (feeds_past b parts.0 e) }
    by_rest (Some l) same = record { file = ap (λ x. b ∷ x) same.file; behind = same.behind; stop = same.stop ∙ sym (feeds_past b parts.0 e) }

-- a line that isn't a full stop
no_stop : (b : ℕ) → nat_eq b 46 ≡ false → (lines : List Text) → cut (with_byte b lines) ≡ cut_later (with_byte b lines)
no_stop b e [] = ap (λ (t : Bool). cond (t && true) (Some ([], [])) None) e
no_stop b e (first ∷ rest) =
    ap (λ (t : Bool). cond (t && same_text first []) (Some ([], rest)) (option_map (λ l. ((b ∷ first) ∷ l.0, l.1)) (cut rest))) e

no_stop_longer : (b : ℕ) (lines : List Text) → cut (with_byte 46 (with_byte b lines)) ≡ cut_later (with_byte 46 (with_byte b lines))
no_stop_longer b [] = refl
no_stop_longer b (first ∷ rest) = refl

lines_past : (b : ℕ) (bytes : Text) → nat_eq b 10 ≡ false → lines_of (b ∷ bytes) ≡ with_byte b (lines_of bytes)
lines_past b bytes e = ap (λ (t : Bool). cond t ([] ∷ lines_of bytes) (with_byte b (lines_of bytes))) e

lines_at : (b : ℕ) (bytes : Text) → nat_eq b 10 ≡ true → lines_of (b ∷ bytes) ≡ [] ∷ lines_of bytes
lines_at b bytes e = ap (λ (t : Bool). cond t ([] ∷ lines_of bytes) (with_byte b (lines_of bytes))) e

mutual
  parts_same : (bytes : Text) → AreSame bytes (cut (lines_of bytes)) (parts_from true bytes)
  parts_same [] = record { file = refl; behind = refl; stop = refl }
  parts_same (b ∷ bytes) = by_stop (nat_eq b 46) refl (nat_eq b 10) refl (stop_same bytes) (parts_same bytes) (later_same bytes)
    where
      by_stop : (t : Bool) → nat_eq b 46 ≡ t → (u : Bool) → nat_eq b 10 ≡ u → AreSame (46 ∷ bytes) (cut (with_byte 46 (lines_of bytes))) (parts_at_stop bytes) → AreSame bytes (cut (lines_of bytes)) (parts_from true bytes)
          → AreSame bytes (cut_later (lines_of bytes)) (parts_from false bytes) → AreSame (b ∷ bytes) (cut (lines_of (b ∷ bytes))) (parts_from true (b ∷ bytes))
      by_stop true e u f at_stop at_start later = subst (λ (x : ℕ). AreSame (x ∷ bytes) (cut (lines_of (x ∷ bytes))) (parts_from true (x ∷ bytes))) (sym (eqb-true b 46 e)) at_stop
      by_stop false e true f at_stop at_start later = subst (λ (x : ℕ). AreSame (x ∷ bytes) (cut (lines_of (x ∷ bytes))) (parts_from true (x ∷ bytes))) (sym (eqb-true b 10 f)) (fed bytes (cut (lines_of bytes)) (parts_from true bytes) at_start)
      by_stop false e false f at_stop at_start later =
          subst (λ l. AreSame (b ∷ bytes) (cut l) (parts_from true (b ∷ bytes))) (sym (lines_past b bytes f))
          (subst (λ o. AreSame (b ∷ bytes) o (parts_from true (b ∷ bytes))) (sym (no_stop b e (lines_of bytes)))
          (subst (λ (t : Bool). AreSame (b ∷ bytes) (cut_later (with_byte b (lines_of bytes))) (cond t (parts_at_stop bytes) (before (b ∷ []) (parts_from (nat_eq b 10) bytes)))) (sym e)
          (subst (λ (t : Bool). AreSame (b ∷ bytes) (cut_later (with_byte b (lines_of bytes))) (before (b ∷ []) (parts_from t bytes))) (sym f)
          (grown b f bytes (lines_of bytes) (parts_from false bytes) later))))

  later_same : (bytes : Text) → AreSame bytes (cut_later (lines_of bytes)) (parts_from false bytes)
  later_same [] = record { file = refl; behind = refl; stop = refl }
  later_same (b ∷ bytes) = by_feed (nat_eq b 10) refl (parts_same bytes) (later_same bytes)
    where
      by_feed : (u : Bool) → nat_eq b 10 ≡ u → AreSame bytes (cut (lines_of bytes)) (parts_from true bytes) → AreSame bytes (cut_later (lines_of bytes)) (parts_from false bytes)
          → AreSame (b ∷ bytes) (cut_later (lines_of (b ∷ bytes))) (parts_from false (b ∷ bytes))
      by_feed true f at_start later = subst (λ (x : ℕ). AreSame (x ∷ bytes) (cut_later (lines_of (x ∷ bytes))) (parts_from false (x ∷ bytes))) (sym (eqb-true b 10 f)) (fed bytes (cut (lines_of bytes)) (parts_from true bytes) at_start)
      by_feed false f at_start later =
          subst (λ l. AreSame (b ∷ bytes) (cut_later l) (parts_from false (b ∷ bytes))) (sym (lines_past b bytes f))
          (subst (λ (t : Bool). AreSame (b ∷ bytes) (cut_later (with_byte b (lines_of bytes))) (before (b ∷ []) (parts_from t bytes))) (sym f)
          (grown b f bytes (lines_of bytes) (parts_from false bytes) later))

  stop_same : (bytes : Text) → AreSame (46 ∷ bytes) (cut (with_byte 46 (lines_of bytes))) (parts_at_stop bytes)
  stop_same [] = record { file = refl; behind = refl; stop = refl }
  stop_same (b ∷ bytes) = by_feed (nat_eq b 10) refl (later_same bytes)
    where
      by_feed : (u : Bool) → nat_eq b 10 ≡ u → AreSame bytes (cut_later (lines_of bytes)) (parts_from false bytes) → AreSame (46 ∷ b ∷ bytes) (cut (with_byte 46 (lines_of (b ∷ bytes)))) (parts_at_stop (b ∷ bytes))
      by_feed true f later = subst (λ (x : ℕ). AreSame (46 ∷ x ∷ bytes) (cut (with_byte 46 (lines_of (x ∷ bytes)))) (parts_at_stop (x ∷ bytes))) (sym (eqb-true b 10 f)) (record { file = refl; behind = refl; stop = refl })
      by_feed false f later =
          subst (λ l. AreSame (46 ∷ b ∷ bytes) (cut (with_byte 46 l)) (parts_at_stop (b ∷ bytes))) (sym (lines_past b bytes f))
          (subst (λ o. AreSame (46 ∷ b ∷ bytes) o (parts_at_stop (b ∷ bytes))) (sym (no_stop_longer b (lines_of bytes)))
          (subst (λ (t : Bool). AreSame (46 ∷ b ∷ bytes) (cut_later (with_byte 46 (with_byte b (lines_of bytes)))) (cond t ([], Some bytes) (before (46 ∷ b ∷ []) (parts_from false bytes)))) (sym f)
          (grown 46 refl (b ∷ bytes) (with_byte b (lines_of bytes)) (before (b ∷ []) (parts_from false bytes)) (grown b f bytes (lines_of bytes) (parts_from false bytes) later))))

pub file_is : (bytes : Text) → file_text bytes ≡ (parts_from true bytes).0
unfolding file_text
file_is bytes = (parts_same bytes).file

pub answers_are : (bytes : Text) → answers_in bytes ≡ lines_of (or_none (parts_from true bytes).1)
unfolding answers_in
answers_are bytes = (parts_same bytes).behind

-- the full stop stands behind the lines of the file
pub stop_is : (bytes : Text) → stop_line bytes ≡ line_feeds (file_text bytes) + 1
unfolding stop_line file_text
stop_is bytes = ap (λ n. n + 1) ((parts_same bytes).stop ∙ ap line_feeds (sym (parts_same bytes).file))

-- ---- single lines

no_feed_parts : (b : ℕ) (bytes : Text) → has_no_feed (b ∷ bytes) ≡ true → (nat_eq b 10 ≡ false) × (has_no_feed bytes ≡ true)
no_feed_parts b bytes h = by_test (nat_eq b 10) refl h
  where
    by_test : (t : Bool) → nat_eq b 10 ≡ t → cond t false (has_no_feed bytes) ≡ true → (nat_eq b 10 ≡ false) × (has_no_feed bytes ≡ true)
    by_test true e h = absurd (true≢false (sym h))
    by_test false e h = (e, h)

pub no_feed_more : (bytes : Text) (b : ℕ) → has_no_feed bytes ≡ true → nat_eq b 10 ≡ false → has_no_feed (bytes ++ b ∷ []) ≡ true
no_feed_more [] b h e = ap (λ (t : Bool). cond t false true) e
no_feed_more (c ∷ bytes) b h e =
    let parts = no_feed_parts c bytes h in
    ap (λ (t : Bool). cond t false (has_no_feed (bytes ++ b ∷ []))) parts.0 ∙ no_feed_more bytes b parts.1 e

-- up to a line feed
pub line_first : (bytes : Text) (b : ℕ) (rest : Text) → has_no_feed bytes ≡ true → nat_eq b 10 ≡ true → lines_of (bytes ++ b ∷ rest) ≡ bytes ∷ lines_of rest
line_first [] b rest h e = lines_at b rest e
line_first (c ∷ bytes) b rest h e =
    let parts = no_feed_parts c bytes h in
    lines_past c (bytes ++ b ∷ rest) parts.0 ∙ ap (with_byte c) (line_first bytes b rest parts.1 e)

-- up to the end
pub line_last : (c : ℕ) (bytes : Text) → has_no_feed (c ∷ bytes) ≡ true → lines_of (c ∷ bytes) ≡ (c ∷ bytes) ∷ []
line_last c [] h = lines_past c [] (no_feed_parts c [] h).0
line_last c (d ∷ bytes) h =
    let parts = no_feed_parts c (d ∷ bytes) h in
    lines_past c (d ∷ bytes) parts.0 ∙ ap (with_byte c) (line_last d bytes parts.1)

-- past these bytes
pub line_longer : (bytes : Text) (b : ℕ) (rest : Text) → has_no_feed bytes ≡ true → nat_eq b 10 ≡ false
    → (first : Text) × (others : List Text) × (lines_of (bytes ++ b ∷ rest) ≡ first ∷ others) × (length bytes < length first) × LeavesEnd first others (Some (lines_of rest))
line_longer [] b rest h e = by_lines (lines_of rest) (lines_past b rest e)
  where
    by_lines : (lines : List Text) → lines_of (b ∷ rest) ≡ with_byte b lines → (first : Text) × (others : List Text) × (lines_of (b ∷ rest) ≡ first ∷ others) × (0 < length first) × LeavesEnd first others (Some lines)
    by_lines [] f = (b ∷ [], [], f, omega arith, inl refl)
    by_lines (x ∷ xs) f = (b ∷ x, xs, f, omega arith, inr (b ∷ [], x, refl, refl))
line_longer (c ∷ bytes) b rest h e =
    let parts = no_feed_parts c bytes h in
    let later = line_longer bytes b rest parts.1 e in
    (c ∷ later.0, later.1, lines_past c (bytes ++ b ∷ rest) parts.0 ∙ ap (with_byte c) later.2, omega (arith, later.3), end_behind c later.0 later.1 (Some (lines_of rest)) later.4)
  where
    end_behind : (c : ℕ) (first : Text) (others : List Text) (left : Option (List Text)) → LeavesEnd first others left → LeavesEnd (c ∷ first) others left
    end_behind c first others left (inl none) = inl none
    end_behind c first others left (inr (front, end, e, is)) = inr (c ∷ front, end, ap (λ (t : Text). c ∷ t) e, is)
