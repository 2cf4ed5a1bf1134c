use Rattle.packed_chunk.proofs.taking.take_each_first.Goals as goal

pub held-requires : goal.held-requires
held-requires c = λ known. (c.requires.usual known).first.0

pub held-requires-2 : goal.held-requires-2
held-requires-2 c = λ known. (c.requires.usual known).first.1.0

pub held-requires-3 : goal.held-requires-3
held-requires-3 c = λ known. (c.requires.usual known).first.1.1.0

pub held-requires-4 : goal.held-requires-4
held-requires-4 c = λ known. (c.requires.usual known).first.1.1.1.0

pub held-requires-5 : goal.held-requires-5
held-requires-5 c = λ known. (c.requires.usual known).first.1.1.1.1.0

pub held-requires-6 : goal.held-requires-6
held-requires-6 c = λ known. (c.requires.usual known).first.1.1.1.1.1.0

pub held-requires-7 : goal.held-requires-7
held-requires-7 c = λ known. (c.requires.usual known).first.1.1.1.1.1.1.0

pub held-requires-8 : goal.held-requires-8
held-requires-8 c = λ known. (c.requires.usual known).first.1.1.1.1.1.1.1.0

pub held-requires-9 : goal.held-requires-9
held-requires-9 c = λ known. (c.requires.usual known).first.1.1.1.1.1.1.1.1.0

pub held-requires-10 : goal.held-requires-10
held-requires-10 c = λ known. (c.requires.usual known).first.1.1.1.1.1.1.1.1.1.0

pub held-requires-11 : goal.held-requires-11
held-requires-11 c = λ known. (c.requires.usual known).first.1.1.1.1.1.1.1.1.1.1.0

pub held-requires-12 : goal.held-requires-12
held-requires-12 c = λ known. (c.requires.usual known).first.1.1.1.1.1.1.1.1.1.1.1.0
