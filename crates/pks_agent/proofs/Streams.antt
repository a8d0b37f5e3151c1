-- Bytes that are taken one by one, and the parts of an input that they make.
use Rattle.std.proofs.Common.{◌≡◌, ◌<◌, ◌≤◌, ◌+◌, ◌-◌, ℕ, zero, suc, Bool, true, false, cond, ◌&&◌, List, [], ◌∷◌, ◌++◌, length, take, drop, slice_index_or, slice_set, Option, Some, None, option_map, IfSome, Result, Ok, Err, Vec, refl, sym, ap, ap₂, ◌∙◌, subst, append-nil, append_assoc, arith}
use Rattle.std.specs.Prelude.{nat_eq}
use Rattle.std.specs.Io.KnownBytes.{Consumes, IsAtEnd}
use Rattle.std.proofs.lemmas.List.{length-append, length-drop, take_all}
use Rattle.std.specs.declared.alloc.Global.{Global}
use Rattle.pks_io.specs.declared.read.ReadEnd.{ReadEnd}
use Rattle.pks_io.specs.declared.read.ReadEnd.TheVariants as read_end
use Rattle.pks_terms.specs.Printed.{Text}
use Rattle.pks_terms.specs.Talk.{lines_of, file_text}
use Rattle.pks_agent.specs.declared.ahead.ReadAhead.{ReadAhead}
use Rattle.pks_agent.specs.declared.files.Scanned.{Scanned}
use Rattle.pks_agent.specs.declared.files.Scanned.TheVariants.{Byte, Dot, Stop, End}
use Rattle.pks_agent.specs.declared.peers.Heard.{Heard}
use Rattle.pks_agent.specs.declared.peers.Heard.TheVariants as heard
use Rattle.pks_agent.specs.declared.peers.PeerFault.{PeerFault}
use Rattle.pks_agent.specs.declared.peers.PeerFault.TheVariants.{Send, Receive}
use Rattle.pks_agent.specs.Hearing.{Hears, TakesNext, CutsLong}
use Rattle.pks_agent.specs.Streams.{ahead_of, coming, ReadsFile, ReadsFront, before, parts_from, parts_at_stop, Finds, FindsStop, Appended, HasRead, HasFile, has_no_feed, answers_behind, answers_coming}
use Rattle.pks_agent.proofs.Lines.{or_none, file_is, answers_are, line_first, line_last, line_longer}

-- ---- bytes that were read ahead

dropped : (bytes : List ℕ) (at d : ℕ) → at < length bytes → drop at bytes ≡ slice_index_or bytes at d ∷ drop (suc at) bytes
dropped [] at d h = absurd (omega (arith, h))
dropped (b ∷ bytes) zero d h = refl
dropped (b ∷ bytes) (suc at) d h = dropped bytes at d (omega (arith, h))

-- the next
pub next_ahead : (bytes : List ℕ) (at end d : ℕ) → at < end → at < length bytes → take (end - at) (drop at bytes) ≡ slice_index_or bytes at d ∷ take (end - (at + 1)) (drop (at + 1) bytes)
next_ahead bytes at end d some h =
    let count : end - at ≡ suc (end - (at + 1)) = omega (arith, some) in
    let more : suc at ≡ at + 1 = omega arith in
    ap₂ (λ n (l : List ℕ). take n l) count (dropped bytes at d h) ∙ ap (λ n. slice_index_or bytes at d ∷ take (end - (at + 1)) (drop n bytes)) more

pub none_taken : (bytes : List ℕ) → take 0 bytes ≡ []
none_taken [] = refl
none_taken (b ∷ bytes) = refl

none_left : (bytes : List ℕ) (at n : ℕ) → length bytes ≤ at → take n (drop at bytes) ≡ []
none_left [] zero zero h = refl
none_left [] zero (suc n) h = refl
none_left [] (suc at) zero h = refl
none_left [] (suc at) (suc n) h = refl
none_left (b ∷ bytes) zero n h = absurd (omega (arith, h))
none_left (b ∷ bytes) (suc at) n h = none_left bytes at n (omega (arith, h))

-- there is none
pub none_ahead : (bytes : List ℕ) (at end : ℕ) → end ≤ at → take (end - at) (drop at bytes) ≡ []
none_ahead bytes at end h = let zero_more : end - at ≡ 0 = omega (arith, h) in ap (λ n. take n (drop at bytes)) zero_more ∙ none_taken (drop at bytes)

pub none_behind : (bytes : List ℕ) (at end : ℕ) → length bytes ≤ at → take (end - at) (drop at bytes) ≡ []
none_behind bytes at end h = none_left bytes at (end - at) h

-- no more is left than there are
take_fewer : (n : ℕ) (bytes : List ℕ) → length (take n bytes) ≤ length bytes
take_fewer zero bytes = subst (λ l. length l ≤ length bytes) (sym (none_taken bytes)) (omega arith)
take_fewer (suc n) [] = omega arith
take_fewer (suc n) (b ∷ bytes) = let fewer = take_fewer n bytes in omega (arith, fewer)

pub few_left : (bytes : List ℕ) (at end : ℕ) → length bytes ≡ 512 → length (take (end - at) (drop at bytes)) ≤ 512
few_left bytes at end all =
    let few : length (take (end - at) (drop at bytes)) ≤ length (drop at bytes) = take_fewer (end - at) (drop at bytes) in
    let rest : length (drop at bytes) ≡ length bytes - at = length-drop at bytes in
    omega (arith, few, rest, all)

-- what was just read
pub read_ahead : (bytes : List ℕ) (end : ℕ) → take (end - 0) (drop 0 bytes) ≡ take end bytes
read_ahead bytes end = let all : end - 0 ≡ end = omega arith in ap (λ n. take n bytes) all

pub read_none : (bytes : List ℕ) (end : ℕ) → 0 < length bytes → take (end - 0) (drop 0 bytes) ≡ [] → end ≡ 0
read_none [] end some e = absurd (omega (arith, some))
read_none (b ∷ bytes) zero some e = refl
read_none (b ∷ bytes) (suc end) some e = let none : b ∷ take end bytes ≡ [] = sym (read_ahead (b ∷ bytes) (suc end)) ∙ e in cc

-- ---- bytes that are held

pub none_held : (bytes : List ℕ) (n : ℕ) → 0 < length bytes → take n bytes ≡ [] → n ≡ 0
none_held [] n some e = absurd (omega (arith, some))
none_held (b ∷ bytes) zero some e = refl
none_held (b ∷ bytes) (suc n) some e = cc

held_next : (bytes : List ℕ) (n b : ℕ) → n < length bytes → take (suc n) (slice_set bytes n b) ≡ take n bytes ++ b ∷ []
held_next [] n b h = absurd (omega (arith, h))
held_next (c ∷ bytes) zero b h = refl
held_next (c ∷ bytes) (suc n) b h = ap (λ l. c ∷ l) (held_next bytes n b (omega (arith, h)))

pub held_more : (bytes : List ℕ) (n b : ℕ) → n < length bytes → take (n + 1) (slice_set bytes n b) ≡ take n bytes ++ b ∷ []
held_more bytes n b h = let more : n + 1 ≡ suc n = omega arith in ap (λ k. take k (slice_set bytes n b)) more ∙ held_next bytes n b h

take_few : (bytes : List ℕ) (n : ℕ) → length (take n bytes) ≤ n
take_few [] zero = omega arith
take_few [] (suc n) = omega arith
take_few (b ∷ bytes) zero = omega arith
take_few (b ∷ bytes) (suc n) = let few = take_few bytes n in omega (arith, few)

pub held_few : (bytes : List ℕ) (n : ℕ) → n < 64 → length (take n bytes) < 64
held_few bytes n h = let few = take_few bytes n in omega (arith, h, few)

pub held_all : (bytes : List ℕ) (n : ℕ) → 64 ≤ n → length bytes ≡ 64 → 64 ≤ length (take n bytes)
held_all bytes n h all = let whole : take n bytes ≡ bytes = take_all n bytes (omega (arith, h, all)) in let same : length (take n bytes) ≡ length bytes = ap length whole in omega (arith, same, all)

-- ---- what is to come

abbrev joined : Text → Option Text → Option Text
joined bytes left = option_map (λ more. bytes ++ more) left

pub popped : (old new : Text) (b : ℕ) (left : Option Text) → old ≡ b ∷ new → Consumes (joined old left) (joined new left) (b ∷ [])
popped old new b None e = tt
popped old new b (Some more) e = ap (λ l. l ++ more) e

pub read_popped : (old read new : Text) (b : ℕ) (left left' : Option Text) → old ≡ [] → Consumes left left' read → read ≡ b ∷ new → Consumes (joined old left) (joined new left') (b ∷ [])
read_popped old read new b None left' none c e = tt
read_popped old read new b (Some more) None none c e = absurd c
read_popped old read new b (Some more) (Some rest) none c e = ap (λ l. l ++ more) none ∙ c ∙ ap (λ l. l ++ rest) e

pub read_ended : (old read new : Text) (left left' : Option Text) → old ≡ [] → Consumes left left' read → (read ≡ [] → IsAtEnd left') → read ≡ [] → new ≡ [] → Consumes (joined old left) (joined new left') [] × IsAtEnd (joined new left')
read_ended old read new None None none c end e f = (tt, tt)
read_ended old read new None (Some rest) none c end e f = (tt, ap (λ l. l ++ rest) f ∙ end e)
read_ended old read new (Some more) None none c end e f = absurd c
read_ended old read new (Some more) (Some rest) none c end e f =
    (ap (λ l. l ++ more) none ∙ c ∙ ap (λ l. l ++ rest) e ∙ sym (ap (λ l. l ++ rest) f), ap (λ l. l ++ rest) f ∙ end e)

-- ---- what stands next

pub found_end : (begins : Bool) (old new : Option Text) → Consumes old new [] × IsAtEnd new → Finds begins old new End
found_end begins None new h = tt
found_end begins (Some all) None h = absurd h.0
found_end begins (Some all) (Some rest) h = (ap (parts_from begins) (h.0 ∙ h.1), h.1)

pub found_byte : (begins : Bool) (b : ℕ) (old new : Option Text) → (begins && nat_eq b 46) ≡ false → Consumes old new (b ∷ []) → Finds begins old new (Byte b)
found_byte begins b None new e h = tt
found_byte begins b (Some all) None e h = absurd h
found_byte begins b (Some all) (Some rest) e h = ap (parts_from begins) h ∙ ap (λ (t : Bool). cond t (parts_at_stop rest) (before (b ∷ []) (parts_from (nat_eq b 10) rest))) e

pub found_stop : (begins : Bool) (b : ℕ) (old mid new : Option Text) (found : Scanned) → (begins && nat_eq b 46) ≡ true → Consumes old mid (b ∷ []) → FindsStop mid new found → Finds begins old new found
found_stop begins b None mid new found e h f = tt
found_stop begins b (Some all) None new found e h f = absurd h
found_stop begins b (Some all) (Some more) None found e h f = absurd f
found_stop begins b (Some all) (Some more) (Some rest) found e h f = by_kind found f
  where
    stops : parts_from begins all ≡ parts_at_stop more
    stops = ap (parts_from begins) h ∙ ap (λ (t : Bool). cond t (parts_at_stop more) (before (b ∷ []) (parts_from (nat_eq b 10) more))) e

    by_kind : (found : Scanned) → FindsStop (Some more) (Some rest) found → Finds begins (Some all) (Some rest) found
    by_kind (Byte c) f = absurd f
    by_kind (Dot c) f = stops ∙ f
    by_kind Stop f = stops ∙ f
    by_kind End f = absurd f

pub stop_ended : (old new : Option Text) → Consumes old new [] × IsAtEnd new → FindsStop old new Stop
stop_ended None new h = tt
stop_ended (Some all) None h = absurd h.0
stop_ended (Some all) (Some rest) h = ap parts_at_stop (h.0 ∙ h.1) ∙ ap (λ (l : Text). ([], Some l)) (sym h.1)

pub stop_fed : (b : ℕ) (old new : Option Text) → nat_eq b 10 ≡ true → Consumes old new (b ∷ []) → FindsStop old new Stop
stop_fed b None new e h = tt
stop_fed b (Some all) None e h = absurd h
stop_fed b (Some all) (Some rest) e h = ap parts_at_stop h ∙ ap (λ (t : Bool). cond t ([], Some rest) (before (46 ∷ b ∷ []) (parts_from false rest))) e

pub stop_not : (b : ℕ) (old new : Option Text) → nat_eq b 10 ≡ false → Consumes old new (b ∷ []) → FindsStop old new (Dot b)
stop_not b None new e h = tt
stop_not b (Some all) None e h = absurd h
stop_not b (Some all) (Some rest) e h = ap parts_at_stop h ∙ ap (λ (t : Bool). cond t ([], Some rest) (before (46 ∷ b ∷ []) (parts_from false rest))) e

-- ---- the file

pub read_first : (all : Option Text) → HasRead all all [] true
read_first None = tt
read_first (Some all) = refl

behind : (text bytes : Text) (parts : Text × Option Text) → before text (before bytes parts) ≡ before (text ++ bytes) parts
behind text bytes parts = ap (λ (l : Text). (l, parts.1)) (sym (append_assoc text bytes parts.0))

pub read_more : (all now new : Option Text) (text text' : Text) (begins next : Bool) (found : Scanned) → HasRead all now text begins → Finds begins now new found → Appended text text' found (Ok (Some next)) → HasRead all new text' next
read_more None now new text text' begins next found h f a = tt
read_more (Some all) None new text text' begins next found h f a = absurd h
read_more (Some all) (Some mid) None text text' begins next found h f a = absurd f
read_more (Some all) (Some mid) (Some rest) text text' begins next found h f a = by_kind found f a
  where
    by_kind : (found : Scanned) → Finds begins (Some mid) (Some rest) found → Appended text text' found (Ok (Some next)) → HasRead (Some all) (Some rest) text' next
    by_kind (Byte b) f a = h ∙ ap (before text) f ∙ behind text (b ∷ []) (parts_from (nat_eq b 10) rest) ∙ ap₂ (λ t u. before t (parts_from u rest)) (sym a.0) (sym a.1)
    by_kind (Dot b) f a = h ∙ ap (before text) f ∙ behind text (46 ∷ b ∷ []) (parts_from false rest) ∙ ap₂ (λ t u. before t (parts_from u rest)) (sym a.0) (sym a.1)
    by_kind Stop f a = absurd a
    by_kind End f a = absurd a

pub read_whole : (all now new : Option Text) (text text' : Text) (begins : Bool) (found : Scanned) → HasRead all now text begins → Finds begins now new found → Appended text text' found (Ok None) → IfSome all (λ bytes. HasFile bytes new text')
read_whole None now new text text' begins found h f a = tt
read_whole (Some all) None new text text' begins found h f a = absurd h
read_whole (Some all) (Some mid) None text text' begins found h f a = absurd f
read_whole (Some all) (Some mid) (Some rest) text text' begins found h f a = by_kind found f a
  where
    whole : (behind : Option Text) → parts_from true all ≡ before text ([], behind) → text' ≡ text → or_none behind ≡ rest → HasFile all (Some rest) text'
    whole behind parts same is = record {
      rest = rest;
      left = refl;
      file = same ∙ sym (append-nil text) ∙ sym (ap (λ x. x.0) parts) ∙ sym (file_is all);
      answers = answers_are all ∙ ap (λ x. lines_of (or_none x.1)) parts ∙ ap lines_of is;
    }

    by_kind : (found : Scanned) → Finds begins (Some mid) (Some rest) found → Appended text text' found (Ok None) → HasFile all (Some rest) text'
    by_kind (Byte b) f a = absurd a
    by_kind (Dot b) f a = absurd a
    by_kind Stop f a = whole (Some rest) (h ∙ ap (before text) f) a refl
    by_kind End f a = whole None (h ∙ ap (before text) f.0) a (sym f.1)

pub read_long : (all now new : Option Text) (text text' : Text) (begins : Bool) (found : Scanned) → HasRead all now text begins → Finds begins now new found → Appended text text' found (Err read_end.TooLong) → IfSome all (λ bytes. 262144 < length (file_text bytes))
read_long None now new text text' begins found h f a = tt
read_long (Some all) None new text text' begins found h f a = absurd h
read_long (Some all) (Some mid) None text text' begins found h f a = absurd f
read_long (Some all) (Some mid) (Some rest) text text' begins found h f a = by_kind found f a
  where
    longer : (bytes : Text) (parts : Text × Option Text) → parts_from true all ≡ before text (before bytes parts) → 262144 < length text + length bytes → 262144 < length (file_text all)
    longer bytes parts e long =
        let is : length (file_text all) ≡ length (text ++ (bytes ++ parts.0)) = ap length (file_is all ∙ ap (λ x. x.0) e) in
        let outer = length-append text (bytes ++ parts.0) in
        let inner = length-append bytes parts.0 in
        omega (arith, is, outer, inner, long)

    by_kind : (found : Scanned) → Finds begins (Some mid) (Some rest) found → Appended text text' found (Err read_end.TooLong) → 262144 < length (file_text all)
    by_kind (Byte b) f a = longer (b ∷ []) (parts_from (nat_eq b 10) rest) (h ∙ ap (before text) f) (omega (arith, a))
    by_kind (Dot b) f a = longer (46 ∷ b ∷ []) (parts_from false rest) (h ∙ ap (before text) f) (omega (arith, a))
    by_kind Stop f a = absurd a
    by_kind End f a = absurd a

pub read_stopped : (all now new later : Option Text) (text text' : Text) (begins : Bool) (found : Scanned) (end : ReadEnd) → HasRead all now text begins → Finds begins now new found → Appended text text' found (Err end) → IfSome all (ReadsFile 262144 later (Err end))
read_stopped all now new later text text' begins found read_end.TooLong h f a = read_long all now new text text' begins found h f a
read_stopped None now new later text text' begins found read_end.Fault h f a = tt
read_stopped (Some all) now new later text text' begins found read_end.Fault h f a = tt
read_stopped None now new later text text' begins found read_end.Memory h f a = tt
read_stopped (Some all) now new later text text' begins found read_end.Memory h f a = tt

-- with nothing read ahead at first
pub read_front : (none : ReadAhead) (left left' : Option Text) (result : Result (Vec ℕ Global) ReadEnd) (ahead : ReadAhead) (front : Result (Vec ℕ Global × ReadAhead) ReadEnd) → ahead_of none ≡ [] → IfSome (coming none left) (ReadsFile 262144 (coming ahead left') result)
    → ((text : Vec ℕ Global) → result ≡ Ok text → front ≡ Ok (text, ahead)) → ((end : ReadEnd) → result ≡ Err end → front ≡ Err end) → IfSome left (ReadsFront 262144 left' front)
read_front none None left' result ahead front e told ok err = tt
read_front none (Some all) left' (Ok text) ahead front e told ok err =
    subst (λ r. ReadsFront 262144 left' r all) (sym (ok text refl)) (subst (λ (l : Text). HasFile l (coming ahead left') text.items) (ap (λ (l : Text). l ++ all) e) told)
read_front none (Some all) left' (Err read_end.TooLong) ahead front e told ok err =
    subst (λ r. ReadsFront 262144 left' r all) (sym (err read_end.TooLong refl)) (subst (λ (l : Text). 262144 < length (file_text l)) (ap (λ (l : Text). l ++ all) e) told)
read_front none (Some all) left' (Err read_end.Fault) ahead front e told ok err = subst (λ r. ReadsFront 262144 left' r all) (sym (err read_end.Fault refl)) tt
read_front none (Some all) left' (Err read_end.Memory) ahead front e told ok err = subst (λ r. ReadsFront 262144 left' r all) (sym (err read_end.Memory refl)) tt

-- ---- answers

pub heard_end : (held answer : Text) (old new : Option Text) → held ≡ [] → Consumes old new [] × IsAtEnd new → Hears (answers_behind held old) (answers_coming new) answer (Ok heard.End)
heard_end held answer None new none h = tt
heard_end held answer (Some bytes) None none h = absurd h.0
heard_end held answer (Some bytes) (Some rest) none h = (ap lines_of (ap₂ (λ (x y : Text). x ++ y) none (h.0 ∙ h.1)), ap (λ l. Some (lines_of l)) h.1)

taken : (lines rest : List Text) (held : Text) → lines ≡ held ∷ rest → TakesNext (Some lines) (Some rest) held
taken lines rest held e = subst (λ l. TakesNext (Some l) (Some rest) held) (sym e) (refl, refl)

pub heard_last : (held : Text) (old new : Option Text) → (held ≡ [] → ⊥) → has_no_feed held ≡ true → Consumes old new [] × IsAtEnd new → Hears (answers_behind held old) (answers_coming new) held (Ok heard.Line)
heard_last held None new some no_feed h = tt
heard_last held (Some bytes) None some no_feed h = absurd h.0
heard_last [] (Some bytes) (Some rest) some no_feed h = absurd (some refl)
heard_last (c ∷ held) (Some bytes) (Some rest) some no_feed h =
    let nothing : bytes ≡ [] = h.0 ∙ h.1 in
    taken (lines_of ((c ∷ held) ++ bytes)) (lines_of rest) (c ∷ held)
    (ap (λ l. lines_of ((c ∷ held) ++ l)) nothing ∙ ap lines_of (append-nil (c ∷ held)) ∙ line_last c held no_feed ∙ ap (λ l. (c ∷ held) ∷ lines_of l) (sym h.1))

pub heard_line : (held : Text) (b : ℕ) (old new : Option Text) → has_no_feed held ≡ true → nat_eq b 10 ≡ true → Consumes old new (b ∷ []) → Hears (answers_behind held old) (answers_coming new) held (Ok heard.Line)
heard_line held b None new no_feed e h = tt
heard_line held b (Some bytes) None no_feed e h = absurd h
heard_line held b (Some bytes) (Some rest) no_feed e h =
    taken (lines_of (held ++ bytes)) (lines_of rest) held (ap (λ l. lines_of (held ++ l)) h ∙ line_first held b rest no_feed e)

pub heard_long : (held answer : Text) (b : ℕ) (old new : Option Text) → has_no_feed held ≡ true → nat_eq b 10 ≡ false → 64 ≤ length held → Consumes old new (b ∷ []) → Hears (answers_behind held old) (answers_coming new) answer (Ok heard.Long)
heard_long held answer b None new no_feed e full h = tt
heard_long held answer b (Some bytes) None no_feed e full h = absurd h
heard_long held answer b (Some bytes) (Some rest) no_feed e full h =
    let longer = line_longer held b rest no_feed e in
    let long : 64 < length longer.0 = omega (arith, full, longer.3) in
    subst (λ l. CutsLong (Some l) (Some (lines_of rest))) (sym (ap (λ l. lines_of (held ++ l)) h ∙ longer.2)) (long, longer.4)

pub heard_more : (held held' answer : Text) (b : ℕ) (old mid new : Option Text) (result : Result Heard PeerFault) → held' ≡ held ++ b ∷ [] → Consumes old mid (b ∷ []) → Hears (answers_behind held' mid) (answers_coming new) answer result → Hears (answers_behind held old) (answers_coming new) answer result
heard_more held held' answer b None mid new (Ok heard.Line) e h hears = tt
heard_more held held' answer b None mid new (Ok heard.Long) e h hears = tt
heard_more held held' answer b None mid new (Ok heard.End) e h hears = tt
heard_more held held' answer b None mid new (Err Send) e h hears = tt
heard_more held held' answer b None mid new (Err Receive) e h hears = tt
heard_more held held' answer b (Some bytes) None new result e h hears = absurd h
heard_more held held' answer b (Some bytes) (Some rest) new result e h hears =
    let same : held' ++ rest ≡ held ++ bytes = ap (λ l. l ++ rest) e ∙ append_assoc held (b ∷ []) rest ∙ ap (λ l. held ++ l) (sym h) in
    subst (λ l. Hears (Some (lines_of l)) (answers_coming new) answer result) same hears

-- with nothing held at first
pub heard_from_none : (none answer : Text) (old new : Option Text) (result : Result Heard PeerFault) → none ≡ [] → Hears (answers_behind none old) (answers_coming new) answer result → Hears (answers_coming old) (answers_coming new) answer result
heard_from_none none answer None new result e hears = hears
heard_from_none none answer (Some bytes) new result e hears = subst (λ l. Hears (Some (lines_of (l ++ bytes))) (answers_coming new) answer result) e hears
