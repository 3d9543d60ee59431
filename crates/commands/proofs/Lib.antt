mod Failing
