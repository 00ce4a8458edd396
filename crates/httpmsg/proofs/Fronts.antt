-- A head that begins the bytes begins the first 8192 of them, and the other way round.
use Rattle.std.proofs.Common.{◌≡◌, ℕ, suc, ◌+◌, ◌-◌, ◌*◌, ◌<◌, ◌≤◌, List, [], ◌∷◌, ◌++◌, length, take, drop, refl, arith, ap, sym, ◌∙◌, append_assoc, length-append, All, map}
use Rattle.std.specs.List.{flat_map}
use Rattle.std.proofs.Math.Seq.{take-append-add, drop-append_seam}
use Rattle.std.proofs.lemmas.List.{take-append-drop, take-append-le, length-take}
use Rattle.std.proofs.lemmas.List.Concat.{flat_map-cons}
use Rattle.httparse.specs.Grammar.{LineEnd, crlf, lf, print_end, Field, IsField, print_field, RequestHead, IsRequestHead, print_request, ReadsRequest, HasNoRequest}
use Rattle.httparse.specs.declared.spans.HeaderSpan.{HeaderSpan}
use Rattle.httparse.specs.declared.spans.RequestSpans.{RequestSpans}
use Rattle.httparse.specs.Spans.{RequestOverflows, IsRequestOf, span_bytes, header_bytes}
use Rattle.httpmsg.specs.Head.{head_of}
use Rattle.httpmsg.specs.Stream.{BeginsWith}

-- the front of some bytes decides what follows it
pub after_front : (n : ℕ) (bytes front back : List ℕ) → take n bytes ≡ front ++ back → bytes ≡ front ++ (back ++ drop n bytes)
after_front n bytes front back e = sym (take-append-drop n bytes) ∙ ap (λ x. x ++ drop n bytes) e ∙ append_assoc front back (drop n bytes)

front_of : (n : ℕ) (bytes front rest : List ℕ) → bytes ≡ front ++ rest → length front ≤ n
    → take n bytes ≡ front ++ take (n - length front) rest
front_of n bytes front rest e fits =
    let whole : length front + (n - length front) ≡ n = omega arith in
    ap (take n) e ∙ ap (λ k. take k (front ++ rest)) (sym whole) ∙ take-append-add front rest (n - length front)

-- a head that is no longer than a head may be begins the first bytes
pub begins_first : (bytes : List ℕ) (h : RequestHead) (rest : List ℕ) → BeginsWith bytes h rest
    → ReadsRequest (take 8192 bytes) h (take (8192 - length (print_request h)) rest)
begins_first bytes h rest b = (b.reads.0, front_of 8192 bytes (print_request h) rest b.reads.1 b.fits)

-- and a head of the first bytes begins them all
pub begins_all : (bytes : List ℕ) (h : RequestHead) (rest : List ℕ) (len : ℕ) → ReadsRequest (take 8192 bytes) h rest
    → len ≡ length (print_request h) → BeginsWith bytes h (drop len bytes)
begins_all bytes h rest len r is =
    let split : bytes ≡ print_request h ++ (rest ++ drop 8192 bytes) = after_front 8192 bytes (print_request h) rest r.1 in
    let back : drop len bytes ≡ rest ++ drop 8192 bytes =
    ap (λ k. drop k bytes) is ∙ ap (drop (length (print_request h))) split ∙ drop-append_seam (print_request h) (rest ++ drop 8192 bytes)
    in
    let total : length (take 8192 bytes) ≡ length (print_request h) + length rest = ap length r.1 ∙ length-append (print_request h) rest in
    record {
      reads = (r.0, split ∙ ap (λ x. print_request h ++ x) (sym back));
      fits = omega (arith, total, length-take 8192 bytes);
    }

-- as many bytes as a head may have, and no head among them: none ever
pub never_later : (bytes : List ℕ) → 8192 ≤ length bytes → HasNoRequest (take 8192 bytes)
    → (more : List ℕ) (h : RequestHead) (rest : List ℕ) → BeginsWith (bytes ++ more) h rest → ⊥
never_later bytes enough none more h rest b =
    let first : ReadsRequest (take 8192 (bytes ++ more)) h (take (8192 - length (print_request h)) rest) = begins_first (bytes ++ more) h rest b in
    none h (take (8192 - length (print_request h)) rest) (rw (take-append-le 8192 bytes more enough) at first)

end_some : (e : LineEnd) → 1 ≤ length (print_end e)
end_some crlf = omega arith
end_some lf = omega arith

field_some : (f : Field) → IsField f → 3 ≤ length (print_field f)
field_some f is =
    omega (arith, is.name.0, length-append (f.name ++ 58 ∷ f.raw) (print_end f.end), length-append f.name (58 ∷ f.raw), end_some f.end)

fields_fit : (fs : List Field) → All IsField fs → 3 * length fs ≤ length (flat_map print_field fs)
fields_fit [] all = omega arith
fields_fit (f ∷ fs) all =
    let first : 3 ≤ length (print_field f) = field_some f (all 0 f (omega arith)) in
    let others : 3 * length fs ≤ length (flat_map print_field fs) = fields_fit fs (λ k d below. all (suc k) d (omega (arith, below))) in
    omega (arith, first, others, ap length (flat_map-cons print_field f fs), length-append (print_field f) (flat_map print_field fs))

-- the room for fields is enough for any head that fits
pub fields_have_room : (h : RequestHead) → IsRequestHead h → length (print_request h) ≤ 8192 → length h.fields ≤ 2730
unfolding print_request
fields_have_room h is fits =
    let fields : 3 * length h.fields ≤ length (flat_map print_field h.fields) = fields_fit h.fields is.fields in
    let size = simp length-append at fits in
    omega (arith, fields, size)

-- a parse that fails with that room finds no head that fits, whatever follows
pub never_read : (bytes first : List ℕ) (room : ℕ) → first ≡ take 8192 bytes → room ≡ 2731 → RequestOverflows room first
    → (more : List ℕ) (h : RequestHead) (rest : List ℕ) → BeginsWith (bytes ++ more) h rest → ⊥
never_read bytes first room is roomy over more h rest b =
    let all : bytes ++ more ≡ first ++ (drop 8192 bytes ++ more) =
    ap (λ x. x ++ more) (sym (take-append-drop 8192 bytes)) ∙ append_assoc (take 8192 bytes) (drop 8192 bytes) more
    ∙ ap (λ x. x ++ (drop 8192 bytes ++ more)) (sym is)
    in
    let many : room < length h.fields = over (drop 8192 bytes ++ more) h rest (b.reads.0, sym all ∙ b.reads.1) in
    omega (arith, many, roomy, fields_have_room h b.reads.0 b.fits)

-- the spans of a head of the first bytes show a head that begins them all
pub front_whole : (bytes first : List ℕ) (headers : List HeaderSpan) (r : RequestSpans) → first ≡ take 8192 bytes → IsRequestOf first headers r
    → (r.len ≤ length bytes) × ((h : RequestHead) × BeginsWith bytes h (drop r.len bytes)
    × (record { method = span_bytes first r.method; target = span_bytes first r.path; minor = r.version; fields = map (header_bytes first) (take r.headers headers) } ≡ head_of h))
front_whole bytes first headers r is (h, at) =
    let reads : ReadsRequest (take 8192 bytes) h (drop r.len first) = rw (← is) at.reads in
    let begins : BeginsWith bytes h (drop r.len bytes) = begins_all bytes h (drop r.len first) r.len reads at.len in (
      omega (arith, at.len, ap length begins.reads.1, length-append (print_request h) (drop r.len bytes)),
      (h, begins, rw (at.method, at.path, at.version, at.fields) refl),
    )
