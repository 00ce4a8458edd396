use Rattle.std.proofs.Common.{◌≡◌, ◌∙◌, refl, sym, subst, inl, inr}
use Rattle.httpmsg.specs.Flow.{TookSome}
use Rattle.httpmsg.specs.declared.head.BrokenMessage.{BrokenMessage}
use Rattle.httpmsg.specs.declared.head.End.TheVariants.{Broken}
use Rattle.httpmsg.specs.declared.cutter.CutFault.TheVariants as Cuts
use Rattle.routes.specs.ReplyBytes.{end_bytes}
use Rattle.api.specs.declared.fault.ServeFault.TheVariants.{Write, Memory}
use Rattle.api.specs.declared.piece.Told.{Told}
use Rattle.api.specs.declared.piece.Told.TheVariants.{Ends}
use Rattle.api.proofs.Causes.{apart, no_fault, cut_broken, broken_memory, memory_broken}
use Rattle.api.proofs.piece.answer_fault.Goals as goal

pub returns-in-Ok : goal.returns-in-Ok
returns-in-Ok g c =
    let was : c.args.fault ≡ Cuts.Broken c.in-Broken.broken = c.in-Broken.is in
    let told : Told = Ends (Broken c.in-Broken.broken) in
    let Said : BrokenMessage → Type 0 = λ b. (told ≡ Ends (Broken b)) × g.O.Output.took c.args.output.now c.write_fault.new.output (end_bytes (Broken b)) in
    record {
      broken = λ b is. subst Said (cut_broken (sym was ∙ is)) (refl, c.in-Ok.ensures.writes);
      memory = λ is. broken_memory c.in-Broken.broken (sym was ∙ is);
      later = c.write_fault.ensures.cause.later;
      well = c.in-Ok.ensures.cause.well refl;
      cause = λ is. absurd (no_fault is);
      only = tt;
    }

pub returns-in-Err : goal.returns-in-Err
returns-in-Err g c =
    let was : c.args.fault ≡ Cuts.Broken c.in-Broken.broken = c.in-Broken.is in
    let Said : BrokenMessage → Type 0 = λ b. TookSome g.O.Output.took c.args.output.now c.write_fault.new.output (end_bytes (Broken b)) in
    record {
      broken = λ b is. (refl, subst Said (cut_broken (sym was ∙ is)) c.in-Err.ensures.writes);
      memory = λ is. broken_memory c.in-Broken.broken (sym was ∙ is);
      later = c.write_fault.ensures.cause.later;
      well = tt;
      cause = λ is. c.in-Err.ensures.cause.failed refl;
      only = inr refl;
    }

pub returns-in-Ok-write_no_more : goal.returns-in-Ok-write_no_more
returns-in-Ok-write_no_more g c =
    let was : c.args.fault ≡ Cuts.Memory = c.in-Memory.is in
    record {
      broken = λ b is. memory_broken b (sym was ∙ is);
      memory = λ is. inl (refl, c.in-Ok-write_no_more.ensures.writes);
      later = c.write_no_more.ensures.cause.later;
      well = tt;
      cause = λ is. apart Memory Write (λ is. cc) is;
      only = inl refl;
    }

pub returns-in-Err-write_no_more : goal.returns-in-Err-write_no_more
returns-in-Err-write_no_more g c =
    let was : c.args.fault ≡ Cuts.Memory = c.in-Memory.is in
    record {
      broken = λ b is. memory_broken b (sym was ∙ is);
      memory = λ is. inr (refl, c.in-Err-write_no_more.ensures.writes);
      later = c.write_no_more.ensures.cause.later;
      well = tt;
      cause = λ is. c.in-Err-write_no_more.ensures.cause.failed refl;
      only = inr refl;
    }
