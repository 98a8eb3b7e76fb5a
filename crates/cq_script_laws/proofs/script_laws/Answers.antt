use Rattle.std.proofs.Common.{sym, ◌∙◌}
use Rattle.cq_script_laws.proofs.Sound.{script_cut}
use Rattle.cq_script_laws.proofs.Whole.{script_of}
use Rattle.cq_script_laws.proofs.Corollaries.{reads_so_far, reads_all}
use Rattle.cq_script_laws.proofs.script_laws.Goals as goal

pub returns-clause-scripts : goal.returns-clause-scripts
returns-clause-scripts c = script_of

pub returns-clause-begun : goal.returns-clause-begun
returns-clause-begun c = λ bytes r h. h.3 ∙ sym (reads_so_far bytes h.0 h.1 (script_cut bytes h.0 h.1 h.2))

pub returns-clause-whole : goal.returns-clause-whole
returns-clause-whole c = λ bytes r h. h.3 ∙ sym (reads_all bytes h.0 h.1 (script_cut bytes h.0 h.1 h.2))
