-- WHAT THE REFINEMENT PROMISES. A pool on slots stands for one on lists (Stands): all that the two share is equal, and whoever looks a
-- connection up by its number, goes through the available ones or through the queue, or counts, is told the same. Where the
-- connections stand among the slots nobody can see. The proof of each promise is named at the end.
use Rattle.refinement.proofs.Call.{call_refines}
use Rattle.refinement.proofs.Formed.{fresh_stands, fresh_formed, call_formed, ran_formed, run_refines}
use Rattle.refinement.proofs.Rules.{rules_formed, formed_rules}
use Rattle.refinement.proofs.RecordRoom.{call_few}
use Rattle.refinement.specs.Promise.{Refinement}

pub refinement : Refinement
refinement = record {
  made = fresh_stands;
  call = call_refines;
  run = run_refines;
  formed_first = fresh_formed;
  formed_call = call_formed;
  formed_run = ran_formed;
  rules_form = rules_formed;
  formed_keeps = formed_rules;
  few = call_few;
}
