-- What is read of a device in pieces is read of the device inside.
use Rattle.std.proofs.Common.{◌≡◌, sym, subst, ℕ, List, Result, Ok, Err, IfOk}
use Rattle.device.specs.declared.device.Device.{Ghosts}
use Rattle.device.specs.Disk.{LeavesOnly}
use Rattle.device.specs.Run.{Ran}
use Rattle.gatelog.specs.declared.read_ahead.ReadAhead.{ReadAhead}
use Rattle.gatelog.specs.ReadAhead.{ahead_disk}
use Rattle.pages.specs.Page.{Entry}
use Rattle.shelf.specs.declared.shelf.Shelf.{Shelf}
use Rattle.shelf.specs.Shelf.{Shelves}
use Rattle.chunks.specs.Whole.{Wholes}
use Rattle.names.specs.Key.{Key}
use Rattle.histories.specs.declared.stored.Stored.{Stored}
use Rattle.histories.specs.View as seen
use Rattle.snapshots.specs.declared.object_cache.ObjectCache.{ObjectCache}
use Rattle.snapshots.specs.declared.cached_object.CachedObject.{CachedObject}
use Rattle.snapshots.specs.ObjectCache.{ObjectCaches}
use Rattle.decoded.specs.Decoded.{Decoded}
use Rattle.decoded.specs.Standing.{View}
use Rattle.paged.specs.declared.state.Paged.{Paged}
use Rattle.paged.specs.Lying.{LiesBelow}
use Rattle.paged.specs.Paged.{Holds, IsShown}
use Rattle.durable.specs.declared.content.Opened.{Opened}
use Rattle.durable.specs.declared.fault.Fault.{Fault}
use Rattle.durable.specs.Opened.{HasRead}
use Rattle.durable.specs.ReadWhole.{IsReadWhole}

module _ {D : Type 0} {g : Ghosts D} where
  moments_inside : (old new : ReadAhead D g) (P : List ℕ → Type 0) → LeavesOnly ahead_disk old new P → LeavesOnly g.disk old.device new.device P
  moments_inside old new P moments = record { later = moments.later; each = moments.each; before = moments.before }

  pub ran_inside : (old new : ReadAhead D g) (step : List ℕ → List ℕ → Type 0) → Ran ahead_disk old new step → Ran g.disk old.device new.device step
  ran_inside old new step run = record {
    kept = run.kept;
    had_kept = run.had_kept;
    count = run.count;
    seen = run.seen;
    crash = run.crash;
    any_moment = λ keeps. let moments = run.any_moment keeps in record { later = moments.later; each = moments.each; before = moments.before };
  }

  module _ (a : ReadAhead D g) where
    shelves_inside : (shelf : Shelf) (entries : List Entry) → Shelves ahead_disk a shelf entries → Shelves g.disk a.device shelf entries
    shelves_inside shelf entries shelves = record {
      index = shelves.index;
      held = λ some. let held = shelves.held some in record { keeps = held.keeps; sound = held.sound; cached = held.cached };
      are = shelves.are;
    }

    wholes_inside : (shelf : Shelf) (entries : List Entry) → Wholes ahead_disk a shelf entries → Wholes g.disk a.device shelf entries
    wholes_inside shelf entries wholes = record { can = wholes.can; shelves = shelves_inside shelf _ wholes.shelves }

    caches_inside : (cache : ObjectCache) (objects : List (Key × CachedObject)) → ObjectCaches ahead_disk a cache objects → ObjectCaches g.disk a.device cache objects
    caches_inside cache objects caches = record {
      entries = caches.entries;
      shelves = wholes_inside cache.shelf caches.entries caches.shelves;
      hold = caches.hold;
      found = caches.found;
    }

    below_inside : (cache : ObjectCache) (base : List (Key × Stored Decoded)) → LiesBelow ahead_disk a cache base → LiesBelow g.disk a.device cache base
    below_inside cache base below = λ bare. let lies = below bare in record { all = lies.all; caches = caches_inside cache lies.all lies.caches; are = lies.are }

    holds_inside : (p : Paged) (held : seen.View Decoded) → Holds ahead_disk a p held → Holds g.disk a.device p held
    holds_inside p held holds = record { base = holds.base; below = below_inside p.cache holds.base holds.below; shows = holds.shows }

    shown_inside : (p : Paged) (v : View) → IsShown ahead_disk a p v → IsShown g.disk a.device p v
    shown_inside p v shown = record { base = shown.base; below = below_inside p.cache shown.base shown.below; shows = shown.shows }

    pub whole_inside : (content : List ℕ) (p : Paged) → IsReadWhole content ahead_disk a p → IsReadWhole content g.disk a.device p
    whole_inside content p whole = record {
      counts = whole.counts;
      pages = whole.pages;
      entries = shelves_inside p.cache.shelf _ whole.entries;
      kept = whole.kept;
      log = whole.log;
    }

  pub read_inside : (old new : ReadAhead D g) (result : Result Opened Fault) → HasRead ahead_disk old new result → HasRead g.disk old.device new.device result
  read_inside old new (Ok opened) read = record {
    rules = read.rules;
    floor = read.floor;
    works = read.works;
    in_data = read.in_data;
    found = λ keeps rules h stands. let found = read.found keeps rules h stands in (found.0, shown_inside new opened.paged _ found.1);
    redone = λ none. let held = read.redone none in (held.0, holds_inside new opened.paged held.0 held.1, held.2);
    log = read.log;
    damaged = read.damaged;
    told = read.told;
    ran = ran_inside old new _ read.ran;
    refusal = read.refusal;
    cause = read.cause;
  }
  read_inside old new (Err fault) read = record {
    rules = read.rules;
    floor = read.floor;
    works = read.works;
    in_data = read.in_data;
    found = read.found;
    redone = read.redone;
    log = read.log;
    damaged = read.damaged;
    told = read.told;
    ran = ran_inside old new _ read.ran;
    refusal = read.refusal;
    cause = read.cause;
  }

  -- the device inside is what was given, and what is given back
  module _ (old new : ReadAhead D g) (found left : D) (is : old.device ≡ found) (same : left ≡ new.device) where
    pub read_opened : (result : Result Opened Fault) → HasRead ahead_disk old new result → HasRead g.disk found left result
    read_opened result read =
        let Read : D → D → Type 0 = λ x y. HasRead g.disk x y result in
        subst (λ x. Read x left) is (subst (Read old.device) (sym same) (read_inside old new result read))

    pub whole_opened : (result : Result Opened Fault) → (g.disk.keeps old.device → IfOk result (λ opened. IsReadWhole (g.disk.content old.device) ahead_disk new opened.paged))
        → g.disk.keeps found → IfOk result (λ opened. IsReadWhole (g.disk.content found) g.disk left opened.paged)
    whole_opened (Ok opened) whole keeps =
        let Keeps : D → Type 0 = λ x. g.disk.keeps x in
        let Whole : D → D → Type 0 = λ x y. IsReadWhole (g.disk.content x) g.disk y opened.paged in
        subst (λ x. Whole x left) is (subst (Whole old.device) (sym same) (whole_inside new (g.disk.content old.device) opened.paged (whole (subst Keeps (sym is) keeps))))
    whole_opened (Err fault) whole keeps = tt
