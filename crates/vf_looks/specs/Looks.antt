-- What is seen of the machine's next steps.
use Rattle.vf_model.specs.Acts as model
use Rattle.vf_looks.specs.declared.touches.Touch.{Touch}

-- what is touched
abbrev pub touch_of : Touch → model.Touch
touch_of t = record { block = t.block; cell = t.cell; writes = t.writes; place = t.place }
