-- The first message of some bytes, from the head that begins them.
use Rattle.std.proofs.Common.{◌≡◌, ◌≢◌, ℕ, ◌+◌, ◌-◌, ◌<◌, ◌≤◌, inl, inr, List, [], ◌∷◌, ◌++◌, length, take, drop, refl, arith, ap, sym, ◌∙◌, append_assoc, length-append, length-drop, subst, None, false}
use Rattle.std.proofs.lemmas.List.{append-nil, nil_from_length, take-append-drop, length-take-le, drop-drop, drop-append-le}
use Rattle.httparse.specs.Grammar.{RequestHead, IsRequestHead, print_request}
use Rattle.httparse.proofs.GrammarLemmas.{request_unique, ReadsRequest-append}
use Rattle.httpmsg.specs.declared.head.MessageFault.TheVariants as Fault
use Rattle.httpmsg.specs.declared.head.End.TheVariants.{Broken}
use Rattle.httpmsg.specs.declared.front.Front.TheVariants.{Whole}
use Rattle.httpmsg.specs.Head.{Head, head_of, method_of, says_close, content_length, fault_of}
use Rattle.httpmsg.specs.Front.{IsFront}
use Rattle.httpmsg.specs.Stream.{Message, message_of, BeginsWith, Takes, Waits, IsUnfinished, EndsAtOnce}
use Rattle.httpmsg.specs.Cut.{IsLeast, Awaits}

-- a head has a byte at least
pub head_some : (h : RequestHead) → IsRequestHead h → 0 < length (print_request h)
unfolding print_request
head_some h is = simp length-append (omega (arith, is.method.0))

-- no head begins no bytes
pub none_begins : (bytes : List ℕ) → length bytes ≡ 0 → (h : RequestHead) (rest : List ℕ) → BeginsWith bytes h rest → ⊥
none_begins bytes none h rest b =
    omega (arith, none, head_some h b.reads.0, ap length b.reads.1, length-append (print_request h) rest)

-- two heads that begin the bytes are one
pub one_head : (bytes : List ℕ) (h k : RequestHead) (r q : List ℕ) → BeginsWith bytes h r → BeginsWith bytes k q → (h ≡ k) × (r ≡ q)
one_head bytes h k r q x y = request_unique bytes h k r q x.reads y.reads

head_length : (bytes : List ℕ) (h : RequestHead) (len : ℕ) → len ≤ length bytes → BeginsWith bytes h (drop len bytes) → (len ≤ 8192) × (0 < len)
head_length bytes h len inside b =
    let total : length bytes ≡ length (print_request h) + length (drop len bytes) = ap length b.reads.1 ∙ length-append (print_request h) (drop len bytes) in
    let back : length (drop len bytes) ≡ length bytes - len = length-drop len bytes in
    (omega (arith, total, back, b.fits), omega (arith, total, back, head_some h b.reads.0))

waits : (bytes : List ℕ) (view : Head) (len : ℕ) → IsFront bytes (Whole view len) → fault_of view ≡ None
    → length (drop len bytes) < content_length view → Waits bytes × IsUnfinished bytes
waits bytes view len (inside, (h, begins, is)) sound short = (
  inr (inr (record {
    head = h;
    rest = drop len bytes;
    begins = begins;
    sound = ap fault_of (sym is) ∙ sound;
    short = omega (arith, short, ap content_length is);
  })),
  λ k rest b.
      let same = one_head bytes h k (drop len bytes) rest begins b in
      let view_is : view ≡ head_of k = is ∙ ap head_of same.0 in
      (ap fault_of (sym view_is) ∙ sound, omega (arith, short, ap length same.1, ap content_length view_is)),
)

begins_more : (bytes more : List ℕ) (h : RequestHead) (rest : List ℕ) → BeginsWith bytes h rest → BeginsWith (bytes ++ more) h (rest ++ more)
begins_more bytes more h rest b = record { reads = ReadsRequest-append bytes h rest more b.reads; fits = b.fits }

front_more : (bytes more : List ℕ) (view : Head) (len : ℕ) → IsFront bytes (Whole view len) → IsFront (bytes ++ more) (Whole view len)
front_more bytes more view len (inside, (h, begins, is)) =
    let Begins : List ℕ → Type 0 = λ rest. BeginsWith (bytes ++ more) h rest in (
      omega (arith, inside, length-append bytes more),
      (h, subst Begins (sym (drop-append-le len bytes more inside)) (begins_more bytes more h (drop len bytes) begins), is),
    )

-- a head without its whole body: its message is awaited
pub awaits_body : (bytes : List ℕ) (view : Head) (len : ℕ) → IsFront bytes (Whole view len) → fault_of view ≡ None
    → content_length view ≤ 65536 → length bytes < len + content_length view → Awaits bytes (len + content_length view)
awaits_body bytes view len (inside, (h, begins, is)) sound small short = record {
  short = short;
  few = omega (arith, (head_length bytes h len inside begins).0, small);
  stays = λ more below.
      let front : IsFront (bytes ++ more) (Whole view len) = front_more bytes more view len (inside, (h, begins, is)) in
      let rest : length (drop len (bytes ++ more)) < content_length view = omega (arith, below, front.0, length-drop len (bytes ++ more)) in
      waits (bytes ++ more) view len front sound rest;
  least = inl (
    record {
      head = h;
      rest = drop len bytes;
      begins = begins;
      sound = ap fault_of (sym is) ∙ sound;
      short = omega (arith, short, inside, length-drop len bytes, ap content_length is);
    },
    omega (arith, inside, length-drop len bytes, ap length begins.reads.1, length-append (print_request h) (drop len bytes), ap content_length is),
  );
}

-- no head yet: the next byte is awaited
pub awaits_head : (bytes : List ℕ) → length bytes < 8192 → Waits bytes → ((h : RequestHead) (rest : List ℕ) → BeginsWith bytes h rest → ⊥)
    → Awaits bytes (length bytes + 1)
awaits_head bytes few waits none = record {
  short = omega arith;
  few = omega (arith, few);
  stays = λ more below.
      let Stays : List ℕ → Type 0 = λ x. Waits x × IsUnfinished x in
      subst Stays (sym (same more below)) (waits, λ h rest b. absurd (none h rest b));
  least = inr (λ b. none b.head b.rest b.begins, refl);
}
  where
    same : (more : List ℕ) → length (bytes ++ more) < length bytes + 1 → bytes ++ more ≡ bytes
    same more below =
        let empty : more ≡ [] = nil_from_length more (omega (arith, below, length-append bytes more)) in
        ap (λ x. bytes ++ x) empty ∙ append-nil bytes

-- no bytes: the first is awaited
pub awaits_first : (bytes : List ℕ) → length bytes ≡ 0 → Awaits bytes 1
awaits_first bytes none =
    let Awaited : ℕ → Type 0 = λ n. Awaits bytes n in
    let one : length bytes + 1 ≡ 1 = omega (arith, none) in
    subst Awaited one (awaits_head bytes (omega (arith, none)) (inl (nil_from_length bytes none)) (none_begins bytes none))

-- fewer bytes than are awaited: as many are awaited then
pub awaits_more : (bytes more : List ℕ) (need : ℕ) → Awaits bytes need → length (bytes ++ more) < need → Awaits (bytes ++ more) need
awaits_more bytes more need a below = record {
  short = below;
  few = a.few;
  stays = λ others.
      let Stays : List ℕ → Type 0 = λ x. length x < need → Waits x × IsUnfinished x in
      subst Stays (sym (append_assoc bytes more others)) (a.stays (more ++ others));
  least = later a.least;
}
  where
    later : IsLeast bytes need → IsLeast (bytes ++ more) need
    later (inl (b, size)) = inl (
      record {
        head = b.head;
        rest = b.rest ++ more;
        begins = begins_more bytes more b.head b.rest b.begins;
        sound = b.sound;
        short = omega (arith, below, size, ap length b.begins.reads.1, length-append (print_request b.head) b.rest, length-append b.rest more, length-append bytes more);
      },
      size,
    )
    later (inr (none, size)) =
        let empty : more ≡ [] = nil_from_length more (omega (arith, below, size, length-append bytes more)) in
        let Least : List ℕ → Type 0 = λ x. IsLeast x need in
        subst Least (sym (ap (λ x. bytes ++ x) empty ∙ append-nil bytes)) (inr (none, size))

-- what is awaited of the bytes themselves
pub awaits_now : (bytes : List ℕ) (need : ℕ) → Awaits bytes need → Waits bytes × IsUnfinished bytes
awaits_now bytes need a =
    let Stays : List ℕ → Type 0 = λ x. length x < need → Waits x × IsUnfinished x in
    subst Stays (append-nil bytes) (a.stays []) a.short

-- a head with its whole body is a message
pub takes : (bytes : List ℕ) (view : Head) (len : ℕ) (m : Message) → IsFront bytes (Whole view len) → fault_of view ≡ None
    → len + content_length view ≤ length bytes
    → m ≡ record { method = method_of view.method; target = view.target; closes = says_close view; body = take (content_length view) (drop len bytes) }
    → (0 < len + content_length view) × (len + content_length view ≤ length bytes) × Takes bytes m (drop (len + content_length view) bytes)
takes bytes view len m (inside, (h, begins, is)) sound whole m_is =
    let n : ℕ = content_length view in
    let body : List ℕ = take n (drop len bytes) in
    let long : n ≤ length (drop len bytes) = omega (arith, whole, length-drop len bytes) in
    let split : drop len bytes ≡ body ++ drop (len + n) bytes =
    sym (take-append-drop n (drop len bytes)) ∙ ap (λ x. body ++ x) (drop-drop n len bytes)
    in
    let own : m.body ≡ body = ap (λ (x : Message). x.body) m_is in
    let Begins : List ℕ → Type 0 = λ rest. BeginsWith bytes h rest in (
      omega (arith, (head_length bytes h len inside begins).1),
      whole,
      record {
        head = h;
        begins = subst Begins (split ∙ ap (λ x. x ++ drop (len + n) bytes) (sym own)) begins;
        sound = ap fault_of (sym is) ∙ sound;
        body = ap length own ∙ length-take-le n (drop len bytes) long ∙ ap content_length is;
        is = m_is ∙ ap (λ (v : Head). record { method = method_of v.method; target = v.target; closes = says_close v; body = body }) is ∙ ap (message_of h) (sym own);
      },
    )

more_some : (bytes more : List ℕ) → bytes ≢ [] → bytes ++ more ≢ []
more_some [] more some e = some refl
more_some (b ∷ bytes) more some e = cc

-- no head ever: the bytes end the stream
pub never_ends : (bytes : List ℕ) → bytes ≢ [] → ((more : List ℕ) (h : RequestHead) (rest : List ℕ) → BeginsWith (bytes ++ more) h rest → ⊥)
    → EndsAtOnce bytes (Broken (record { fault = Fault.Malformed; is_head = false }))
never_ends bytes some never more =
    inl (record { some = more_some bytes more some; unfinished = λ h rest b. absurd (never more h rest b); is = refl })
