use Rattle.cl_regions.proofs.marks.Around.pass.Goals as goal

pub returns : goal.returns
returns c = λ begun waiting h l. record {
  holds = c.in_ok-pass.ensures begun h.holds l;
  waits = c.waiting_behind-self.ensures waiting h.waits;
}
