-- The code's roles and subjects as those of the definitions.
use Rattle.cl_labelling.specs.Regions as regions
use Rattle.cl_regions.specs.declared.roles.Role as role
use Rattle.cl_regions.specs.declared.roles.Role.TheVariants as the_role
use Rattle.cl_regions.specs.declared.roles.Subject as subject
use Rattle.cl_regions.specs.declared.roles.Subject.TheVariants as the_subject

abbrev pub subject_of : subject.Subject → regions.Subject
subject_of (the_subject.Objects count) = regions.objects count
subject_of (the_subject.Function name) = regions.function name.now

abbrev pub role_of : role.Role → regions.Role
role_of (the_role.Says pragma) = regions.says pragma.now
role_of (the_role.Item item) = regions.is_item (subject_of item)
role_of the_role.PassedOver = regions.passed_over
role_of the_role.Bars = regions.bars
