use Rattle.std.proofs.Common.{arith, rules, refl, ap, sym, subst, ◌≡◌, ◌∙◌, ◌+◌, ◌++◌, [], ℕ, List, length, take, drop}
use Rattle.std.proofs.lemmas.Grind.{common_steps}
use Rattle.std.proofs.lemmas.List.{append-nil, drop_all, take_at}
use Rattle.device.specs.Step.{Holds}
use Rattle.device.specs.Sectors.{whole, Whole}
use Rattle.diskmodels.specs.declared.memory_file.MemoryFile.{MemoryFile}
use Rattle.diskmodels.specs.Changes.{memory_file_disk}
use Rattle.diskmodels.proofs.found.found_after_crash.Goals as goal

-- what an empty file holds after a write at its start
written_whole : (fresh new bytes : List ℕ) → fresh ≡ [] → Holds (whole fresh) 0 bytes new → new ≡ bytes
written_whole fresh new bytes none holds =
    holds ∙ ap (λ (x : List ℕ). take 0 (whole x) ++ bytes ++ drop (0 + length bytes) (whole x)) none
    ∙ ap (λ (x : List ℕ). bytes ++ x) (drop_all (0 + length bytes) [] (omega arith)) ∙ append-nil bytes

read_back : (content new rest sectors : List ℕ) (n m : ℕ) → content ≡ sectors → n ≡ length sectors → m ≡ length sectors → new ≡ take n content → take m (new ++ rest) ≡ sectors
read_back content new rest sectors n m same size room read =
    let all : new ≡ sectors = read ∙ ap (take n) same ∙ ap (take n) (sym (append-nil sectors)) ∙ take_at sectors [] n (sym size) in
    ap (λ (x : List ℕ). take m (x ++ rest)) all ∙ take_at sectors rest m (sym room)

-- a crash after the sync leaves what was written
kept : (fresh later : List ℕ) (file after : MemoryFile) (bytes : List ℕ) → fresh ≡ [] → Holds (whole fresh) 0 bytes (whole file.current.items)
    → ((c : List ℕ) → Whole (memory_file_disk.left file) c → c ≡ whole file.current.items) → after ≡ file → memory_file_disk.left after later → whole later ≡ bytes
kept fresh later file after bytes none holds durable same left =
    durable (whole later) (later, subst (λ (f : MemoryFile). memory_file_disk.left f later) same left, refl) ∙ written_whole fresh (whole file.current.items) bytes none holds

pub read-requires-clause-inside : goal.read-requires-clause-inside
read-requires-clause-inside c =
    let now : whole c.in-Ok.file.current.items ≡ c.args.sectors.now =
    kept c.new-device.result.file.current.items c.in-Ok.file.current.items c.write_through.new.device.file c.into_file.result c.args.sectors.now
    (ap (λ (f : MemoryFile). f.current.items) c.new-device.ensures ∙ c.new.ensures.empty)
    (c.in_ok-write_through.ensures.written tt) (c.in_ok-write_through.ensures.durable tt) c.into_file.ensures c.in-Ok.ensures.left
    in
    let here : whole c.new-device-2.result.file.current.items ≡ c.args.sectors.now = ap (λ (f : MemoryFile). whole f.current.items) c.new-device-2.ensures ∙ now in
    let size : length c.deref_mut.result.now ≡ length c.args.sectors.now = search (rules, common_steps) in
    λ k. omega (arith, size, ap length here)

pub returns : goal.returns
returns c =
    let now : whole c.in-Ok.file.current.items ≡ c.args.sectors.now =
    kept c.new-device.result.file.current.items c.in-Ok.file.current.items c.write_through.new.device.file c.into_file.result c.args.sectors.now
    (ap (λ (f : MemoryFile). f.current.items) c.new-device.ensures ∙ c.new.ensures.empty)
    (c.in_ok-write_through.ensures.written tt) (c.in_ok-write_through.ensures.durable tt) c.into_file.ensures c.in-Ok.ensures.left
    in
    let here : whole c.new-device-2.result.file.current.items ≡ c.args.sectors.now = ap (λ (f : MemoryFile). whole f.current.items) c.new-device-2.ensures ∙ now in
    let size : length c.deref_mut.result.now ≡ length c.args.sectors.now = search (rules, common_steps) in
    let room : c.fill.new.self.len ≡ length c.args.sectors.now = search (rules, common_steps) in
    read_back (whole c.new-device-2.result.file.current.items) c.read.new.buffer (drop (length c.read.new.buffer) c.fill.new.self.items) c.args.sectors.now
    (length c.deref_mut.result.now) c.fill.new.self.len here size room (c.in_ok-read.ensures.bytes tt)
