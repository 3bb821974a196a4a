use Rattle.zwire.specs.Frames.{contents}
use Rattle.zwire.proofs.Frames.{beginnings_are_cut, faults_stay}
use Rattle.zwire.proofs.laws.only_cut_frames_want_more.Goals as goal

pub returns : goal.returns
returns c = record { cut = beginnings_are_cut; others = faults_stay contents }
