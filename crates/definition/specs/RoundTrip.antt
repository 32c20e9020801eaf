-- An event's line, read, is the event; a line that is read as an event is that event's line. Options likewise.
use Rattle.std.specs.Prelude.{◌≡◌, refl, Bool, true, false, List, [], ◌∷◌, ◌++◌, ℕ, ◌*◌, ◌/◌, ◌%◌, ◌<◌, length, get_or, take, drop}
use Rattle.std.proofs.Common.{ap, sym, ◌∙◌, arith, length-append, length-take, drop_of_length-le, take-append-drop, take_at, drop-cons, eqb-true}
use Rattle.std.specs.Prelude.{Option, None as none, Some as some}
use Rattle.std.proofs.lemmas.List.{get_or_at}
use Rattle.definition.specs.Words.{when◌then◌else◌, ◌=?◌}
use Rattle.definition.specs.Events.{parts_of}
use Rattle.definition.specs.Bytes.{be4, be8, at4, at8, need, plain, bare, check_in_frame, clear_frame, frame_of_fields, frame_of, frame_bytes, options_of, options_bytes, hex_of, line_of, bytes_of, or_bad, or_none, frame_of_line, options_of_line}
use Rattle.definition.specs.HexLaws.{Bytes, none8, more8, unhex_hex_of, unhex_read, Read, length_hex_of, get_d_small, drop_spread, be4_bytes, at4_be4, at8_be8, small4, small8, four, eight}
use Rattle.definition.specs.Types.{Event, CheckOut, WarmPool, Abandon, CheckIn, Clear, MarkAsReady, Succeeded, SucceededForPool, Failed, Maintenance, FillPool, Pin, ReturnToPinner, TakeFromPinner, Close, Frame, Good, Bad, Options}

-- what a frame can hold
pub record Writable (e : Event) (now : ℕ) : Type 0 where
  pub id : (parts_of e).id < 4294967296
  pub time : now < 18446744073709551616
  pub second : (parts_of e).second < 18446744073709551616

-- ── Written, then read ─────────────────────────────────────────────────────────────────────────────────────────────────

fields_good : (e : Event) (now : ℕ) → frame_of_fields (parts_of e).kind (parts_of e).flags (parts_of e).id now (parts_of e).second ≡ Good e now
unfolding frame_of_fields when◌then◌else◌
fields_good (CheckOut n) now = refl
fields_good (WarmPool n) now = refl
fields_good (Abandon n) now = refl
fields_good (CheckIn n false false t) now = refl
fields_good (CheckIn n false true t) now = refl
fields_good (CheckIn n true false t) now = refl
fields_good (CheckIn n true true t) now = refl
fields_good (Clear false n) now = refl
fields_good (Clear true n) now = refl
fields_good MarkAsReady now = refl
fields_good (Succeeded n) now = refl
fields_good (SucceededForPool n t) now = refl
fields_good (Failed n) now = refl
fields_good Maintenance now = refl
fields_good FillPool now = refl
fields_good (Pin n) now = refl
fields_good (ReturnToPinner n) now = refl
fields_good (TakeFromPinner n) now = refl
fields_good Close now = refl

pub frame_good : (e : Event) (now : ℕ) → Writable e now → frame_of (frame_bytes e now) ≡ Good e now
unfolding frame_of frame_bytes at4 at8 when◌then◌else◌
frame_good e now w =
    rw (at4_be4 (parts_of e).id w.id, at8_be8 now w.time, at8_be8 (parts_of e).second w.second) (fields_good e now)

-- kind and flags are bytes
head_small : (e : Event) → ((parts_of e).kind < 256) × ((parts_of e).flags < 256)
unfolding when◌then◌else◌
head_small (CheckOut n) = (omega arith, omega arith)
head_small (WarmPool n) = (omega arith, omega arith)
head_small (Abandon n) = (omega arith, omega arith)
head_small (CheckIn n false false t) = (omega arith, omega arith)
head_small (CheckIn n false true t) = (omega arith, omega arith)
head_small (CheckIn n true false t) = (omega arith, omega arith)
head_small (CheckIn n true true t) = (omega arith, omega arith)
head_small (Clear false n) = (omega arith, omega arith)
head_small (Clear true n) = (omega arith, omega arith)
head_small MarkAsReady = (omega arith, omega arith)
head_small (Succeeded n) = (omega arith, omega arith)
head_small (SucceededForPool n t) = (omega arith, omega arith)
head_small (Failed n) = (omega arith, omega arith)
head_small Maintenance = (omega arith, omega arith)
head_small FillPool = (omega arith, omega arith)
head_small (Pin n) = (omega arith, omega arith)
head_small (ReturnToPinner n) = (omega arith, omega arith)
head_small (TakeFromPinner n) = (omega arith, omega arith)
head_small Close = (omega arith, omega arith)

be8_bytes : (x : ℕ) {r : List ℕ} → Bytes r → Bytes (be8 x ++ r)
be8_bytes x r = be4_bytes (x / 4294967296) (be4_bytes (x % 4294967296) r)

pub frame_bytes_lem : (e : Event) (now : ℕ) → Bytes (frame_bytes e now)
unfolding frame_bytes
frame_bytes_lem e now =
    more8 (parts_of e).kind (head_small e).0 (more8 (parts_of e).flags (head_small e).1 (more8 0 (omega arith) (more8 0 (omega arith)
    (be4_bytes (parts_of e).id (be8_bytes now (be8_bytes (parts_of e).second none8))))))

-- a line of 24 bytes
pub line_good : (bs : List ℕ) → Bytes bs → length bs ≡ 24 → bytes_of (line_of bs) ≡ some bs
unfolding bytes_of line_of when◌then◌else◌
line_good bs h n =
    let l : length (hex_of bs) ≡ 48 = length_hex_of bs ∙ omega arith in
    let m : length (hex_of bs ++ 10 ∷ []) ≡ 49 = length-append (hex_of bs) (10 ∷ []) ∙ omega arith in
    let g : get_or (hex_of bs ++ 10 ∷ []) 48 0 ≡ 10 = get_or_at (hex_of bs) 10 [] 0 48 l in
    rw (m, g, take_at (hex_of bs) (10 ∷ []) 48 l) (unhex_hex_of h)

pub frame_length_lem : (e : Event) (now : ℕ) → length (frame_bytes e now) ≡ 24
unfolding frame_bytes
frame_length_lem e now = refl

-- print, then parse
pub written_read : (e : Event) (now : ℕ) → Writable e now → frame_of_line (line_of (frame_bytes e now)) ≡ Good e now
unfolding frame_of_line
written_read e now w = rw (line_good (frame_bytes e now) (frame_bytes_lem e now) (frame_length_lem e now)) (frame_good e now w)

-- ── Read, then written ─────────────────────────────────────────────────────────────────────────────────────────────────

pub record Line (l bs : List ℕ) : Type 0 where
  pub bytes : Bytes bs
  pub count : length bs ≡ 24
  pub same : l ≡ line_of bs

if_some : {A : Type 0} {b : Bool} {p q : Option A} {x : A} {R : Type 0} → (when b then p else q) ≡ some x → (b ≡ true → p ≡ some x → R) → (b ≡ false → q ≡ some x → R) → R
unfolding when◌then◌else◌
if_some {b = true} e f g = f refl e
if_some {b = false} e f g = g refl e

no_some : {A : Type 0} {x : A} {R : Type 0} → none ≡ some x → R
no_some e = let z : ◌≡◌ {A = ℕ} 0 1 = cc in absurd (omega arith)

no_good : {e : Event} {now : ℕ} {R : Type 0} → Bad ≡ Good e now → R
no_good e = let z : ◌≡◌ {A = ℕ} 0 1 = cc in absurd (omega arith)

line_of_lem : (l bs : List ℕ) → length l ≡ 49 → get_or l 48 0 ≡ 10 → Read (take 48 l) bs → Line l bs
unfolding line_of
line_of_lem l bs n t r =
    let m : length (take 48 l) ≡ 48 = simp length-take (omega arith) in
    let k : 2 * length bs ≡ 48 = sym (length_hex_of bs) ∙ ap length r.same ∙ m in
    let d : drop 48 l ≡ get_or l 48 0 ∷ drop 49 l = drop-cons l 48 0 (omega arith) in
    let z : drop 49 l ≡ [] = drop_of_length-le l {i = 49} (omega arith) in
    record { bytes = r.bytes; count = omega arith; same = sym (take-append-drop 48 l) ∙ rw (d, z, t, r.same) }

pub line_read : (l bs : List ℕ) → bytes_of l ≡ some bs → Line l bs
unfolding bytes_of
line_read l bs e =
    if_some e
    (λ t e₁. if_some e₁ (λ t₁ e₂. line_of_lem l bs (eqb-true (length l) 49 t) (eqb-true (get_or l 48 0) 10 t₁) (unhex_read (take 48 l) bs e₂)) (λ f₁. no_some))
    (λ f. no_some)

-- the fields are the event's
pub record Carries (k f i n t : ℕ) (e : Event) (now : ℕ) : Type 0 where
  pub kind : k ≡ (parts_of e).kind
  pub flags : f ≡ (parts_of e).flags
  pub id : i ≡ (parts_of e).id
  pub time : n ≡ now
  pub second : t ≡ (parts_of e).second

if_good : {b : Bool} {p q : Frame} {e : Event} {now : ℕ} {R : Type 0} → (when b then p else q) ≡ Good e now → (b ≡ true → p ≡ Good e now → R) → (b ≡ false → q ≡ Good e now → R) → R
unfolding when◌then◌else◌
if_good {b = true} e f g = f refl e
if_good {b = false} e f g = g refl e

need_good : {b : Bool} {p : Frame} {e : Event} {now : ℕ} {R : Type 0} → need b p ≡ Good e now → (b ≡ true → p ≡ Good e now → R) → R
need_good q k = if_good q k (λ f. no_good)

-- the event that was made is the one that was found
made : {k f i n t : ℕ} {e e' : Event} {now : ℕ} → Good e' n ≡ Good e now → Carries k f i n t e' n → Carries k f i n t e now
made {n = n} {e = e} {e' = e'} {now = now} q r = let a : e' ≡ e = cc in let b : n ≡ now = cc in rw (← a, ← b) r

plain_good : (f t : ℕ) (p : Frame) {e : Event} {now : ℕ} {R : Type 0} → plain f t p ≡ Good e now → (f ≡ 0 → t ≡ 0 → p ≡ Good e now → R) → R
plain_good f t p q k = need_good q (λ a q₁. need_good q₁ (λ b q₂. k (eqb-true f 0 a) (eqb-true t 0 b) q₂))

bare_good : (f i t : ℕ) (p : Frame) {e : Event} {now : ℕ} {R : Type 0} → bare f i t p ≡ Good e now → (f ≡ 0 → i ≡ 0 → t ≡ 0 → p ≡ Good e now → R) → R
bare_good f i t p q k = need_good q (λ a q₁. plain_good f t p q₁ (λ x y z. k x (eqb-true i 0 a) y z))

check_in_good : (f i n t : ℕ) (e : Event) (now : ℕ) → check_in_frame f i n t ≡ Good e now → Carries 4 f i n t e now
unfolding when◌then◌else◌
check_in_good f i n t e now q =
    if_good q (λ a r. made r (record { kind = refl; flags = eqb-true f 0 a; id = refl; time = refl; second = refl })) (λ _ q₁.
    if_good q₁ (λ a r. made r (record { kind = refl; flags = eqb-true f 1 a; id = refl; time = refl; second = refl })) (λ _ q₂.
    if_good q₂ (λ a r. made r (record { kind = refl; flags = eqb-true f 2 a; id = refl; time = refl; second = refl })) (λ _ q₃.
    need_good q₃ (λ a r. made r (record { kind = refl; flags = eqb-true f 3 a; id = refl; time = refl; second = refl })))))

clear_good : (f i n t : ℕ) (e : Event) (now : ℕ) → clear_frame f i n t ≡ Good e now → Carries 5 f i n t e now
unfolding when◌then◌else◌
clear_good f i n t e now q =
    if_good q (λ a q₁. plain_good 0 t _ q₁ (λ _ y r. made r (record { kind = refl; flags = eqb-true f 0 a; id = refl; time = refl; second = y }))) (λ _ q₁.
    need_good q₁ (λ a q₂. plain_good 0 t _ q₂ (λ _ y r. made r (record { kind = refl; flags = eqb-true f 1 a; id = refl; time = refl; second = y }))))

-- a frame of the kind k that uses its id alone, and one that uses nothing
module _ {k f i n t : ℕ} (m : ℕ) (a : k =? m ≡ true) (e : Event) (now : ℕ) where
  with_id_lem : (made_of : ℕ → Event) → ((parts_of (made_of i)).kind ≡ m) → ((parts_of (made_of i)).flags ≡ 0) → ((parts_of (made_of i)).id ≡ i) → ((parts_of (made_of i)).second ≡ 0)
      → plain f t (Good (made_of i) n) ≡ Good e now → Carries k f i n t e now
  with_id_lem made_of ek ef ei es q =
      plain_good f t _ q (λ x y s. made s (record { kind = eqb-true k m a ∙ sym ek; flags = x ∙ sym ef; id = sym ei; time = refl; second = y ∙ sym es }))

  with_none : (e' : Event) → ((parts_of e').kind ≡ m) → ((parts_of e').flags ≡ 0) → ((parts_of e').id ≡ 0) → ((parts_of e').second ≡ 0)
      → bare f i t (Good e' n) ≡ Good e now → Carries k f i n t e now
  with_none e' ek ef ei es q =
      bare_good f i t _ q (λ x y z s. made s (record { kind = eqb-true k m a ∙ sym ek; flags = x ∙ sym ef; id = y ∙ sym ei; time = refl; second = z ∙ sym es }))

pub fields_read : (k f i n t : ℕ) (e : Event) (now : ℕ) → frame_of_fields k f i n t ≡ Good e now → Carries k f i n t e now
unfolding frame_of_fields when◌then◌else◌
fields_read k f i n t e now q =
    if_good q (λ a r. with_id_lem 1 a e now CheckOut refl refl refl refl r) (λ _ q1.
    if_good q1 (λ a r. with_id_lem 2 a e now WarmPool refl refl refl refl r) (λ _ q2.
    if_good q2 (λ a r. with_id_lem 3 a e now Abandon refl refl refl refl r) (λ _ q3.
    if_good q3 (λ a r. rw (eqb-true k 4 a) (check_in_good f i n t e now r)) (λ _ q4.
    if_good q4 (λ a r. rw (eqb-true k 5 a) (clear_good f i n t e now r)) (λ _ q5.
    if_good q5 (λ a r. with_none 6 a e now MarkAsReady refl refl refl refl r) (λ _ q6.
    if_good q6 (λ a r. with_id_lem 7 a e now Succeeded refl refl refl refl r) (λ _ q7.
    if_good q7 (λ a r. plain_good f 0 _ r (λ x _ s. made s (record { kind = eqb-true k 8 a; flags = x; id = refl; time = refl; second = refl }))) (λ _ q8.
    if_good q8 (λ a r. with_id_lem 9 a e now Failed refl refl refl refl r) (λ _ q9.
    if_good q9 (λ a r. with_none 10 a e now Maintenance refl refl refl refl r) (λ _ q10.
    if_good q10 (λ a r. with_none 11 a e now FillPool refl refl refl refl r) (λ _ q11.
    if_good q11 (λ a r. with_id_lem 12 a e now Pin refl refl refl refl r) (λ _ q12.
    if_good q12 (λ a r. with_id_lem 13 a e now ReturnToPinner refl refl refl refl r) (λ _ q13.
    if_good q13 (λ a r. with_id_lem 14 a e now TakeFromPinner refl refl refl refl r) (λ _ q14.
    if_good q14 (λ a r. with_none 15 a e now Close refl refl refl refl r) (λ _ q15. no_good q15)))))))))))))))

same_frame : {k k' f f' a c : ℕ} {x x' y y' z z' : List ℕ} → k ≡ k' → f ≡ f' → a ≡ 0 → c ≡ 0 → x ≡ x' → y ≡ y' → z ≡ z'
    → k ∷ f ∷ a ∷ c ∷ (x ++ (y ++ z)) ≡ k' ∷ f' ∷ 0 ∷ 0 ∷ (x' ++ (y' ++ z'))
same_frame p q r s t u v = cc

-- a frame that is read as an event is the event's frame, and the event can be written
pub record IsFrame (b : List ℕ) (e : Event) (now : ℕ) : Type 0 where
  pub same : b ≡ frame_bytes e now
  pub writable : Writable e now

carried : (b : List ℕ) (e : Event) (now : ℕ) → Bytes b → length b ≡ 24 → get_or b 2 0 ≡ 0 → get_or b 3 0 ≡ 0
    → Carries (get_or b 0 0) (get_or b 1 0) (at4 b 4) (at8 b 8) (at8 b 16) e now → IsFrame b e now
unfolding frame_bytes
carried b e now h n z₂ z₃ r =
    let g : (k : ℕ) → get_or b k 0 < 256 = get_d_small h in
    record {
      same = drop_spread 24 0 b n ∙ same_frame r.kind r.flags z₂ z₃ (four b g 4 ∙ ap be4 r.id) (eight b g 8 ∙ ap be8 r.time) (eight b g 16 ∙ ap be8 r.second);
      writable = record { id = rw r.id at (small4 b g 4); time = rw r.time at (small8 b g 8); second = rw r.second at (small8 b g 16) };
    }

pub frame_read : (b : List ℕ) (e : Event) (now : ℕ) → Bytes b → frame_of b ≡ Good e now → IsFrame b e now
unfolding frame_of
frame_read b e now h q =
    need_good q (λ l q₁. need_good q₁ (λ t q₂. need_good q₂ (λ u q₃.
    carried b e now h (eqb-true (length b) 24 l) (eqb-true (get_or b 2 0) 0 t) (eqb-true (get_or b 3 0) 0 u) (fields_read _ _ _ _ _ e now q₃))))

pub record IsLine (l : List ℕ) (e : Event) (now : ℕ) : Type 0 where
  pub same : l ≡ line_of (frame_bytes e now)
  pub writable : Writable e now

line_frame : (l : List ℕ) (e : Event) (now : ℕ) (o : Option (List ℕ)) → bytes_of l ≡ o → or_bad o ≡ Good e now → IsLine l e now
line_frame l e now none p q = no_good q
line_frame l e now (some b) p q =
    let n = line_read l b p in
    let f = frame_read b e now n.bytes q in
    record { same = n.same ∙ ap line_of f.same; writable = f.writable }

-- parse, then print
pub read_written : (l : List ℕ) (e : Event) (now : ℕ) → frame_of_line l ≡ Good e now → IsLine l e now
unfolding frame_of_line
read_written l e now q = line_frame l e now (bytes_of l) refl q

-- ── Options ────────────────────────────────────────────────────────────────────────────────────────────────────────────

pub record Storable (o : Options) : Type 0 where
  pub maximum : o.maximum < 4294967296
  pub minimum : o.minimum < 4294967296
  pub connecting : o.connecting < 4294967296
  pub idle : o.idle < 18446744073709551616

options_good : (o : Options) → Storable o → options_of (options_bytes o) ≡ some o
unfolding options_of options_bytes at4 at8 when◌then◌else◌
options_good o s = rw (at4_be4 o.maximum s.maximum, at4_be4 o.minimum s.minimum, at4_be4 o.connecting s.connecting, at8_be8 o.idle s.idle)

pub options_bytes_lem : (o : Options) → Bytes (options_bytes o)
unfolding options_bytes
options_bytes_lem o =
    more8 0 (omega arith) (more8 0 (omega arith) (more8 0 (omega arith) (more8 0 (omega arith)
    (be4_bytes o.maximum (be4_bytes o.minimum (be4_bytes o.connecting (be8_bytes o.idle none8)))))))

pub options_length : (o : Options) → length (options_bytes o) ≡ 24
unfolding options_bytes
options_length o = refl

pub options_written_read : (o : Options) → Storable o → options_of_line (line_of (options_bytes o)) ≡ some o
unfolding options_of_line
options_written_read o s = rw (line_good (options_bytes o) (options_bytes_lem o) (options_length o)) (options_good o s)

pub record IsOptions (l : List ℕ) (o : Options) : Type 0 where
  pub same : l ≡ line_of (options_bytes o)
  pub storable : Storable o

zeros4 : (b : List ℕ) → at4 b 0 ≡ 0 → get_or b 0 0 ∷ get_or b 1 0 ∷ get_or b 2 0 ∷ get_or b 3 0 ∷ [] ≡ 0 ∷ 0 ∷ 0 ∷ 0 ∷ []
unfolding at4
zeros4 b e =
    let e₀ : get_or b 0 0 ≡ 0 = omega arith in
    let e₁ : get_or b 1 0 ≡ 0 = omega arith in
    let e₂ : get_or b 2 0 ≡ 0 = omega arith in
    let e₃ : get_or b 3 0 ≡ 0 = omega arith in
    rw (e₀, e₁, e₂, e₃)

same_options : {a v w x y v' w' x' y' z : List ℕ} → a ≡ z → v ≡ v' → w ≡ w' → x ≡ x' → y ≡ y' → a ++ (v ++ (w ++ (x ++ y))) ≡ z ++ (v' ++ (w' ++ (x' ++ y')))
same_options p q r s t = cc

options_read : (b : List ℕ) (o : Options) → Bytes b → length b ≡ 24 → at4 b 0 ≡ 0 → o ≡ record { maximum = at4 b 4; minimum = at4 b 8; connecting = at4 b 12; idle = at8 b 16 }
    → (b ≡ options_bytes o) × Storable o
unfolding options_bytes
options_read b o h n z e =
    let g : (k : ℕ) → get_or b k 0 < 256 = get_d_small h in
    rw e (
      drop_spread 24 0 b n ∙ same_options (zeros4 b z) (four b g 4) (four b g 8) (four b g 12) (eight b g 16),
      record { maximum = small4 b g 4; minimum = small4 b g 8; connecting = small4 b g 12; idle = small8 b g 16 },
    )

line_options : (l : List ℕ) (o : Options) (m : Option (List ℕ)) → bytes_of l ≡ m → or_none m ≡ some o → IsOptions l o
unfolding options_of
line_options l o none p q = no_some q
line_options l o (some b) p q =
    let n = line_read l b p in
    if_some q (λ u q₁. if_some q₁ (λ v q₂.
    let e : o ≡ record { maximum = at4 b 4; minimum = at4 b 8; connecting = at4 b 12; idle = at8 b 16 } = cc in
    let r = options_read b o n.bytes n.count (eqb-true (at4 b 0) 0 v) e in
    record { same = n.same ∙ ap line_of r.0; storable = r.1 })
    (λ v. no_some)) (λ u. no_some)

pub options_read_written : (l : List ℕ) (o : Options) → options_of_line l ≡ some o → IsOptions l o
unfolding options_of_line
options_read_written l o q = line_options l o (bytes_of l) refl q
