-- Pieces of so many bytes each as lines; records are of 16.
use Rattle.std.specs.Prelude.{◌≡◌, refl, List, [], ◌∷◌, ◌++◌, ℕ, zero, suc, ◌+◌, ◌*◌, ◌≤◌, length, take, drop}
use Rattle.std.proofs.Common.{sym, ap, ◌∙◌, append_assoc, append-nil, mul-zero, mul-suc, add_comm, arith, length-append, length-take, length-drop, take_at, drop_at, drop-drop}
use Rattle.definition.specs.Bytes.{record_bytes, line_of}
use Rattle.definition.specs.Day.{Entry, Said, RefusedLine, entry_bytes, text_of}
use Rattle.definition.specs.HexLaws.{length_line_of}

-- the first n
unfoldable pub printed_by : (width : ℕ) → ℕ → List ℕ → List ℕ
printed_by w zero s = []
printed_by w (suc n) s = line_of (take w s) ++ printed_by w n (drop w s)

abbrev pub printed : ℕ → List ℕ → List ℕ
printed = printed_by 16

-- a piece in front of others
pub printed_one : (w n : ℕ) (r s : List ℕ) → length r ≡ w → printed_by w (suc n) (r ++ s) ≡ line_of r ++ printed_by w n s
unfolding printed_by
printed_one w n r s e = rw (take_at r s w e, drop_at r s w e)

pub length_printed : (w n : ℕ) (s : List ℕ) → w * n ≤ length s → length (printed_by w n s) ≡ (2 * w + 1) * n
unfolding printed_by
length_printed w zero s h = sym (mul-zero (2 * w + 1))
length_printed w (suc n) s h =
    let m : w * suc n ≡ w * n + w = mul-suc w n in
    let k : length (take w s) ≡ w = simp length-take (omega arith) in
    let r : w * n ≤ length (drop w s) = simp length-drop (omega arith) in
    length-append (line_of (take w s)) (printed_by w n (drop w s))
    ∙ omega (arith, length_line_of (take w s), k, length_printed w n (drop w s) r, mul-suc (2 * w + 1) n)

-- one more
pub printed_more : (w n : ℕ) (s : List ℕ) → printed_by w (suc n) s ≡ printed_by w n s ++ line_of (take w (drop (w * n) s))
unfolding printed_by
printed_more w zero s = append-nil (line_of (take w s)) ∙ ap (λ (j : ℕ). line_of (take w (drop j s))) (sym (mul-zero w))
printed_more w (suc n) s =
    let e : drop (w * n) (drop w s) ≡ drop (w + w * n) s = drop-drop (w * n) w s in
    let k : w + w * n ≡ w * suc n = add_comm w (w * n) ∙ sym (mul-suc w n) in
    ap (λ (t : List ℕ). line_of (take w s) ++ t) (printed_more w n (drop w s)) ∙ sym (append_assoc (line_of (take w s)) (printed_by w n (drop w s)) _)
    ∙ ap (λ (t : List ℕ). (line_of (take w s) ++ printed_by w n (drop w s)) ++ line_of (take w t)) (e ∙ ap (λ (j : ℕ). drop j s) k)

-- the bytes of a log's entries, printed, are the log's text
unfoldable pub entries_bytes : List Entry → List ℕ
entries_bytes [] = []
entries_bytes (e ∷ es) = entry_bytes e ++ entries_bytes es

length_entry : (e : Entry) → length (entry_bytes e) ≡ 16
unfolding entry_bytes record_bytes
length_entry (Said written r) = refl
length_entry (RefusedLine r line) = refl

pub printed_entries : (es : List Entry) (s : List ℕ) → printed (length es) (entries_bytes es ++ s) ≡ text_of es
unfolding printed_by entries_bytes text_of
printed_entries [] s = refl
printed_entries (e ∷ es) s =
    ap (printed (suc (length es))) (append_assoc (entry_bytes e) (entries_bytes es) s)
    ∙ printed_one 16 (length es) (entry_bytes e) (entries_bytes es ++ s) (length_entry e)
    ∙ ap (λ (t : List ℕ). line_of (entry_bytes e) ++ t) (printed_entries es s)
